-- What a change of a session makes of the core, and of the session.
use Rattle.std.specs.Prelude.{◌≡◌, ℕ, ◌+◌, ◌<◌, true, List, [], ◌∷◌, length, Option, Some, None, Result, Ok, Err}
use Rattle.atomic_table.specs.declared.shared.Seat.{Seat}
use Rattle.graph_model.specs.declared.change.Change.{Change}
use Rattle.graph_model.specs.declared.change.Change.TheVariants.{Put}
use Rattle.graph_model.specs.Change.{vertex_of}
use Rattle.graph_model.specs.Records.{destination_end}
use Rattle.core_calls.specs.Calls.{Nothing, Once, First, Leaves, Changes, IsHeldUp, Conflicts, RunsOut}
use Rattle.core_calls.specs.Events.{Told, told}
use Rattle.core_states.specs.declared.event.Act.{Act}
use Rattle.core_states.specs.declared.event.Act.TheVariants as act
use Rattle.core_states.specs.declared.event.CoreAnswer.{CoreAnswer}
use Rattle.core_states.specs.declared.event.CoreAnswer.TheVariants as answer
use Rattle.shard_state.specs.declared.who.Placed.{Placed}
use Rattle.shard_state.specs.declared.who.Placed.TheVariants as placed
use Rattle.shard_state.specs.declared.who.Taken.{Taken}
use Rattle.shard_state.specs.declared.who.Taken.TheVariants as taken
use Rattle.turn_board.specs.Views.{View}
use Rattle.turn_board.specs.declared.board.TurnBoard.{TurnBoard}
use Rattle.store_turns.specs.declared.session.Session.{Session}
use Rattle.store_turns.specs.declared.session.Work.{Work}
use Rattle.store_turns.specs.Moves.{Works}
use Rattle.store_board.specs.Standing.{Goes}
use Rattle.store_rows.specs.Alters.{change_act, is_done_by}
use Rattle.store_sessions.specs.declared.refusal.Refusal.{Refusal}
use Rattle.store_sessions.specs.declared.refusal.Refusal.TheVariants as refusal
use Rattle.store_sessions.specs.declared.changing.Tried.{Tried}
use Rattle.store_sessions.specs.declared.changing.Tried.TheVariants as tried

-- ---- the change

-- an edge is put to a number that destinations may have
abbrev pub HasDestination : Change → Type 0
HasDestination (Put v l d p) = d < destination_end
HasDestination c = Unit {0}

-- ---- the session

-- a transaction of the session works
abbrev pub IsAtWork : Session → Type 0
IsAtWork s = (t : Work) × Works s t

-- The same transaction works on.
pub record StaysAtWork (s s' : Session) : Type 0 where
  pub is_open : s'.is_open ≡ s.is_open
  pub finished : s'.finished ≡ s.finished
  pub before : Work
  pub after : Work
  pub worked : Works s before
  pub works : Works s' after
  pub tid : after.tid ≡ before.tid
  pub read : after.read ≡ before.read

-- The transaction has ended.
abbrev pub HasLeft : Session → Session → Type 0
HasLeft s s' = s' ≡ record s { work = None }

-- its snapshot was of this epoch
abbrev pub HadRead : ℕ → Session → Type 0
HadRead r s = (t : Work) → s.work ≡ Some t → r ≡ t.read

-- What a refusal leaves of it.
abbrev pub RefusedLeaves : Refusal → Session → Session → Type 0
RefusedLeaves (refusal.Held v u n) s s' = HasLeft s s'
RefusedLeaves (refusal.Conflict v e r) s s' = HasLeft s s' × HadRead r s
RefusedLeaves r s s' = StaysAtWork s s'

-- What the end of a change leaves of it.
abbrev pub ChangeLeaves : {A : Type 0} → Result A Refusal → Session → Session → Type 0
ChangeLeaves (Ok x) s s' = StaysAtWork s s'
ChangeLeaves (Err r) s s' = RefusedLeaves r s s'

-- ---- the events

-- how often a vertex is looked at
abbrev pub looks_most : ℕ
looks_most = 16

-- a change that this event makes is refused
abbrev pub Refuses : ℕ → Act → Refusal → List Told → Type 0
Refuses v a refusal.NoMemory ts = RunsOut v ts
Refuses v a (refusal.Held w u n) ts = (w ≡ v) × (n ≡ looks_most) × IsHeldUp v u ts
Refuses v a (refusal.Conflict w e r) ts = (w ≡ v) × Conflicts v e ts
Refuses v a refusal.NoVertex ts = Changes v a answer.NoVertex ts
Refuses v a refusal.TxnFull ts = Changes v a answer.TxnFull ts
Refuses v a refusal.LogFull ts = Changes v a answer.LogFull ts
Refuses v a r ts = ⊥

-- A change that this event makes is made, with what is said so of its answer, or refused.
abbrev pub CallTells : {A : Type 0} → (A → CoreAnswer) → ℕ → Act → Result A Refusal → List Told → Type 0
CallTells says v a (Ok x) ts = Changes v a (says x) ts
CallTells says v a (Err r) ts = Refuses v a r ts

-- that a payload was set or a vertex dropped, and what was done with an edge, as the core says it
abbrev pub done_says : Unit {0} → CoreAnswer
done_says x = answer.Done

abbrev pub placed_says : Placed → CoreAnswer
placed_says placed.Added = answer.Added
placed_says placed.Replaced = answer.Replaced

abbrev pub taken_says : Taken → CoreAnswer
taken_says taken.Gone = answer.Gone
taken_says taken.Absent = answer.Absent

-- It is made, with an answer of its kind, or refused.
abbrev pub ChangeTells : Change → Result CoreAnswer Refusal → List Told → Type 0
ChangeTells c (Ok says) ts = (is_done_by c says ≡ true) × Changes (vertex_of c) (change_act c) says ts
ChangeTells c (Err r) ts = Refuses (vertex_of c) (change_act c) r ts

-- ---- one try

-- how a call ends that is answered so
abbrev pub changed : CoreAnswer → Result CoreAnswer Refusal
changed answer.NoVertex = Err refusal.NoVertex
changed answer.TxnFull = Err refusal.TxnFull
changed answer.LogFull = Err refusal.LogFull
changed says = Ok says

abbrev pub RefusesOnce : ℕ → Act → Refusal → List Told → Type 0
RefusesOnce v a refusal.NoMemory ts = Nothing ts
RefusesOnce v a (refusal.Conflict w e r) ts = (w ≡ v) × First (act.Look v) (answer.Conflict e) (Leaves Nothing) ts
RefusesOnce v a refusal.NoVertex ts = Once a answer.NoVertex ts
RefusesOnce v a refusal.TxnFull ts = Once a answer.TxnFull ts
RefusesOnce v a refusal.LogFull ts = Once a answer.LogFull ts
RefusesOnce v a r ts = ⊥

abbrev pub EndsOnce : Change → Result CoreAnswer Refusal → List Told → Type 0
EndsOnce c (Ok says) ts = (is_done_by c says ≡ true) × Once (change_act c) says ts
EndsOnce c (Err r) ts = RefusesOnce (vertex_of c) (change_act c) r ts

-- The vertex was looked at in vain, or the call ends.
abbrev pub TriedTells : Change → Tried → List Told → Type 0
TriedTells c (tried.Held u) ts = Once (act.Look (vertex_of c)) (answer.Held u) ts
TriedTells c (tried.Ends end) ts = EndsOnce c end ts

abbrev pub TriedLeaves : Tried → Session → Session → Type 0
TriedLeaves (tried.Held u) s s' = StaysAtWork s s'
TriedLeaves (tried.Ends end) s s' = ChangeLeaves end s s'

-- ---- looks in vain

abbrev pub AreLooks : ℕ → List Told → Type 0
AreLooks v [] = Unit {0}
AreLooks v (e ∷ es) = ((u : ℕ) × (e ≡ told (act.Look v) (answer.Held u))) × AreLooks v es

-- The session has looked at a vertex in vain, one time fewer than this.
pub record LooksInVain {H : Type 0} (board : TurnBoard H) (shards v next : ℕ) (p q : Seat (Option H) View) (s s' : Session) : Type 0 where
  pub events : List Told
  pub looks : AreLooks v events
  pub many : length events + 1 ≡ next
  pub goes : Goes board shards events p q s s'
  pub stays : StaysAtWork s s'
