-- What a commit makes of the core, and of the session.
use Rattle.std.specs.Prelude.{◌≡◌, ℕ, Bool, true, false, List, [], ◌∷◌, Option, Some, None, Result, Ok, Err}
use Rattle.atomic_table.specs.declared.shared.Seat.{Seat}
use Rattle.graph_model.specs.declared.record.Outcome.{Outcome}
use Rattle.graph_model.specs.declared.record.Outcome.TheVariants.{Committed}
use Rattle.graph_workers.specs.Passes.{IsFaulted}
use Rattle.core_calls.specs.Calls.{Commits, Fails, Gives}
use Rattle.core_calls.specs.Events.{Told, told}
use Rattle.core_states.specs.declared.actor.Actor.{Actor}
use Rattle.core_states.specs.declared.event.Act.TheVariants as act
use Rattle.core_states.specs.declared.event.CoreAnswer.{CoreAnswer}
use Rattle.core_states.specs.declared.event.CoreAnswer.TheVariants as answer
use Rattle.core_states.specs.declared.transaction.Stage.TheVariants.{Decided}
use Rattle.turn_board.specs.Views.{View}
use Rattle.turn_board.specs.declared.board.TurnBoard.{TurnBoard}
use Rattle.store_turns.specs.declared.session.Session.{Session}
use Rattle.store_turns.specs.declared.session.Work.{Work}
use Rattle.store_turns.specs.Seeing.{HasSeen}
use Rattle.store_board.specs.Standing.{Goes}
use Rattle.store_leads.specs.Leads.{AreWaits}
use Rattle.store_sessions.specs.declared.refusal.Refusal.{Refusal}
use Rattle.store_sessions.specs.declared.refusal.Refusal.TheVariants as refusal
use Rattle.store_commits.specs.declared.committing.CommitEnd.{CommitEnd}
use Rattle.store_commits.specs.declared.committing.CommitEnd.TheVariants as ending

-- ---- the session

-- its record's outcome is known, or is not
abbrev pub Knows : Session → Outcome → Type 0
Knows s o = (t : Work) × (s.work ≡ Some t) × (t.stage ≡ Decided o)

abbrev pub KnowsNone : Session → Type 0
KnowsNone s = (o : Outcome) → Knows s o → ⊥

-- whether its transaction has changed nothing
abbrev pub HasNoChange : Session → Bool → Type 0
HasNoChange s true = (t : Work) → s.work ≡ Some t → t.changes ≡ []
HasNoChange s false = (t : Work) → s.work ≡ Some t → t.changes ≡ [] → ⊥

-- What a commit leaves of the session and of its actor.
abbrev pub CommitLeaves : Result CommitEnd Refusal → Session → Session → Actor → Type 0
CommitLeaves (Ok (ending.Committed e)) s s' a = s' ≡ record s { finished = Some e; work = None }
CommitLeaves (Ok ending.Ended) s s' a = s' ≡ record s { work = None }
CommitLeaves (Err (refusal.LogFault before after)) s s' a = (s' ≡ record s { work = None }) × IsFaulted before after a.receipts
CommitLeaves (Err r) s s' a = ⊥

-- ---- the events

-- A commit with this answer is these events.
abbrev pub CommitTells : Session → Result CommitEnd Refusal → List Told → Type 0
CommitTells s (Ok (ending.Committed e)) ts = Commits ts
CommitTells s (Ok ending.Ended) ts = HasNoChange s true × Gives ts
CommitTells s (Err (refusal.LogFault before after)) ts = Fails ts
CommitTells s (Err r) ts = ⊥

-- The epoch that a commit answers is one that the pass has seen visible.
abbrev pub CommitSees : Result CommitEnd Refusal → View → Type 0
CommitSees (Ok (ending.Committed e)) v = HasSeen e v
CommitSees (Ok ending.Ended) v = Unit {0}
CommitSees (Err r) v = Unit {0}

-- it is answered that the epoch is visible
abbrev pub says_visible : Option CoreAnswer → Bool
says_visible None = false
says_visible (Some (answer.Visible b)) = b
says_visible (Some says) = false

-- ---- loops

-- The session has led and asked, and its record still waits.
pub record HasWaited {H : Type 0} (board : TurnBoard H) (shards : ℕ) (p q : Seat (Option H) View) (s s' : Session) : Type 0 where
  pub events : List Told
  pub waits : AreWaits events
  pub goes : Goes board shards events p q s s'
  pub same : s' ≡ s

abbrev pub AreApplies : List Told → Type 0
AreApplies [] = Unit {0}
AreApplies (e ∷ es) = ((v : ℕ) × (e ≡ told (act.Apply v) answer.Done)) × AreApplies es

-- The session has applied its record of this epoch at some of the vertices.
pub record HasApplied {H : Type 0} (board : TurnBoard H) (shards e : ℕ) (p q : Seat (Option H) View) (s s' : Session) : Type 0 where
  pub events : List Told
  pub applies : AreApplies events
  pub goes : Goes board shards events p q s s'
  pub work : Work
  pub is : s' ≡ record s { work = Some work }
  pub won : work.stage ≡ Decided (Committed e)

abbrev pub AreSeen : List Told → Type 0
AreSeen [] = Unit {0}
AreSeen (e ∷ es) = ((b : Bool) × (e ≡ told act.Seen (answer.Visible b))) × AreSeen es

-- The session has asked, and is as it was.
pub record HasAsked {H : Type 0} (board : TurnBoard H) (shards : ℕ) (p q : Seat (Option H) View) (s s' : Session) : Type 0 where
  pub events : List Told
  pub seen : AreSeen events
  pub goes : Goes board shards events p q s s'
  pub same : s' ≡ s
