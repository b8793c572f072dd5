-- A session, and the actor of its pass that it stands for.
use Rattle.std.specs.Prelude.{◌≡◌, ℕ, ◌+◌, [], true, false, take, is_some, Option, Some, None}
use Rattle.graph_model.specs.Change.{encoded_lens}
use Rattle.graph_model.specs.Records.{transaction_most}
use Rattle.graph_model.specs.Places.{changes_about}
use Rattle.graph_model.specs.declared.graph.Base.{Base}
use Rattle.core_states.specs.declared.actor.Actor.{Actor}
use Rattle.core_states.specs.declared.clock.Clock.{Clock}
use Rattle.core_states.specs.declared.event.Act.{Act}
use Rattle.core_states.specs.declared.event.CoreAnswer.{CoreAnswer}
use Rattle.core_states.specs.declared.transaction.Transaction.{Transaction}
use Rattle.core_states.specs.ClockEvents.{ClockMove}
use Rattle.core_states.specs.Names.{Name}
use Rattle.core_states.specs.RowEvents.{Limits, has_change}
use Rattle.core_states.specs.States.{State, clock_event}
use Rattle.core_states.specs.Parts.{actor_of}
use Rattle.core_states.specs.declared.transaction.Stage.TheVariants.{Open}
use Rattle.core_states.specs.Numbers.{has_number}
use Rattle.core_states.specs.Openings.{MayOpen, IsAllowed}
use Rattle.core_kept.specs.Bounds.{Kept}
use Rattle.turn_board.specs.Views.{View}
use Rattle.store_turns.specs.declared.session.Session.{Session}
use Rattle.store_turns.specs.declared.session.Work.{Work}
use Rattle.store_turns.specs.Takes.{flag_of, is_changed}

-- The session's transaction is the actor's: its record is as far, and until it is queued it has made these changes. It took these vertices, each of which it changed or not, has given the first of them free again, and has drawn the number that it may use.
pub record IsWork (t : Work) (x : Transaction) : Type 0 where
  pub tid : x.tid ≡ t.tid
  pub read : x.read ≡ t.read
  pub stage : x.stage ≡ t.stage
  pub own : t.stage ≡ Open → x.own ≡ t.changes
  pub drawn : (v : ℕ) → t.drawn ≡ Some v → has_number v x.drawn ≡ true
  pub touched : (v : ℕ) → has_number v x.touched ≡ is_some (flag_of v t.touched.taken)
  pub changed : (v : ℕ) → has_change (changes_about v x.own) ≡ is_changed v t.touched.taken
  pub settled : (v : ℕ) → has_number v x.settled ≡ is_some (flag_of v (take t.settled t.touched.taken))
  pub working : t.settled ≡ 0 → x.settled ≡ []
  pub left : encoded_lens x.own + t.left ≡ transaction_most

abbrev pub IsWorkOf : Option Work → Option Transaction → Type 0
IsWorkOf None None = Unit {0}
IsWorkOf None (Some x) = ⊥
IsWorkOf (Some t) None = ⊥
IsWorkOf (Some t) (Some x) = IsWork t x

-- The session stands for this actor, which leads no group.
pub record IsSessionOf (s : Session) (a : Actor) : Type 0 where
  pub row : a.row ≡ s.is_open
  pub work : IsWorkOf s.work a.txn
  pub finished : a.finished ≡ s.finished
  pub leads : (a.group ≡ []) × (a.written ≡ false)

-- the actor of a pass
abbrev pub name_in : View → ℕ → Name
name_in v index = record { pass = v.number; index = index }

abbrev pub Fits : Session → View → Type 0
Fits s v = IsSessionOf s (actor_of v.base v.actors (name_in v s.index))

-- Where the clock is this, there is a kept state of the core in which the session stands for an actor.
pub record Known (k : Clock) (s : Session) : Type 0 where
  pub base : Base
  pub most : Limits
  pub state : State
  pub may : MayOpen base most
  pub allowed : IsAllowed most
  pub kept : Kept base most state
  pub name : Name
  pub clock : state.clock ≡ k
  pub fits : IsSessionOf s (state.actor name)

-- What a call does on the clock: where it answers, it is the event of every actor for which the session stands, and the session stands for what the event leaves; where memory ran out it leaves all as it was.
abbrev pub DoesClock : (CoreAnswer → Act) → Clock → Session → Option CoreAnswer → Clock → Session → Type 0
DoesClock acts k s None k' s' = (k' ≡ k) × ((a : Actor) → IsSessionOf s a → IsSessionOf s' a)
DoesClock acts k s (Some says) k' s' =
    (a : Actor) → IsSessionOf s a → (m : ClockMove) × (clock_event (acts says) k a ≡ Some m) × (m.answer ≡ says) × (m.clock ≡ k') × IsSessionOf s' m.actor

-- the actor of a name, as a pass has it
abbrev pub actor_at : View → Name → Actor
actor_at v n = actor_of v.base v.actors n
