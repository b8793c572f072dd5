-- What a begin makes of the core, and of the session.
use Rattle.std.specs.Prelude.{◌≡◌, ℕ, ◌≤◌, List, Option, Some, None, Result, Ok, Err}
use Rattle.core_calls.specs.Calls.{Nothing, Begins, IsSpent}
use Rattle.core_calls.specs.Events.{Told}
use Rattle.core_states.specs.declared.event.CoreAnswer.{CoreAnswer}
use Rattle.core_states.specs.declared.event.CoreAnswer.TheVariants as answer
use Rattle.turn_board.specs.Views.{View}
use Rattle.store_turns.specs.declared.session.Session.{Session}
use Rattle.store_turns.specs.declared.session.Work.{Work}
use Rattle.store_turns.specs.Moves.{IsNew}
use Rattle.store_turns.specs.Seeing.{HasSeen}
use Rattle.store_sessions.specs.declared.beginning.Begun.{Begun}
use Rattle.store_sessions.specs.declared.refusal.Refusal.{Refusal}
use Rattle.store_sessions.specs.declared.refusal.Refusal.TheVariants as refusal

-- how a begin ends that is answered so
abbrev pub begun_by : Option CoreAnswer → Result Begun Refusal
begun_by None = Err refusal.NoMemory
begun_by (Some (answer.Begun n e)) = Ok (record { tid = n; read = e })
begun_by (Some answer.Spent) = Err refusal.Spent
begun_by (Some says) = Err refusal.NoMemory

-- A number and a snapshot were given, no number is left, or nothing was done.
abbrev pub BeginTells : Result Begun Refusal → List Told → Type 0
BeginTells (Ok b) ts = Begins b.tid b.read ts
BeginTells (Err refusal.Spent) ts = IsSpent ts
BeginTells (Err refusal.NoMemory) ts = Nothing ts
BeginTells (Err r) ts = ⊥

-- A new transaction runs, or the session is as before.
abbrev pub BeginLeaves : Result Begun Refusal → Session → Session → Type 0
BeginLeaves (Ok b) s s' = (t : Work) × (s' ≡ record s { finished = None; work = Some t }) × IsNew t b.tid b.read
BeginLeaves (Err r) s s' = s' ≡ s

-- The snapshot is of an epoch that is at least each that the pass had seen visible, and the pass has seen that one then.
abbrev pub BeginSees : Result Begun Refusal → View → View → Type 0
BeginSees (Ok b) v w = ((e : ℕ) → HasSeen e v → e ≤ b.read) × HasSeen b.read w
BeginSees (Err r) v w = Unit {0}
