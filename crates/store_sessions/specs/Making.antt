-- What a call that makes a vertex makes of the core.
use Rattle.std.specs.Prelude.{◌≡◌, ℕ, List, Option, Some, None, Result, Ok, Err}
use Rattle.core_calls.specs.Calls.{Nothing, Once, MakesVertex, IsTooLong, IsVertexSpent, MakesNone}
use Rattle.core_calls.specs.Events.{Told}
use Rattle.core_states.specs.declared.event.Act.TheVariants as act
use Rattle.core_states.specs.declared.event.CoreAnswer.{CoreAnswer}
use Rattle.core_states.specs.declared.event.CoreAnswer.TheVariants as answer
use Rattle.core_states.specs.declared.transaction.Transaction.{Transaction}
use Rattle.core_states.specs.Openings.{run_limits}
use Rattle.store_turns.specs.declared.session.Session.{Session}
use Rattle.store_turns.specs.declared.session.Work.{Work}
use Rattle.store_turns.specs.Fits.{IsWorkOf}
use Rattle.store_turns.specs.Moves.{Works}
use Rattle.store_sessions.specs.declared.refusal.Refusal.{Refusal}
use Rattle.store_sessions.specs.declared.refusal.Refusal.TheVariants as refusal

-- The vertex is made. Or the transaction that the session stands for would be too long with it, no number is left, or memory ran out.
abbrev pub NewTells : Session → List ℕ → Result ℕ Refusal → List Told → Type 0
NewTells s p (Ok v) ts = MakesVertex v p ts
NewTells s p (Err refusal.TxnFull) ts = (x : Transaction) → IsWorkOf s.work (Some x) → IsTooLong run_limits x p ts
NewTells s p (Err refusal.Spent) ts = IsVertexSpent ts
NewTells s p (Err refusal.NoMemory) ts = MakesNone ts
NewTells s p (Err r) ts = ⊥

-- ---- the draw

-- the number, by what is answered
abbrev pub drawn_by : Option CoreAnswer → Result ℕ Refusal
drawn_by None = Err refusal.NoMemory
drawn_by (Some (answer.Number v)) = Ok v
drawn_by (Some answer.Spent) = Err refusal.Spent
drawn_by (Some says) = Err refusal.NoMemory

abbrev pub DrawTells : Result ℕ Refusal → List Told → Type 0
DrawTells (Ok v) ts = Once act.Draw (answer.Number v) ts
DrawTells (Err refusal.Spent) ts = IsVertexSpent ts
DrawTells (Err r) ts = ⊥

-- the transaction has the number, or is as before
abbrev pub DrawLeaves : Result ℕ Refusal → Session → Session → Type 0
DrawLeaves (Ok v) s s' = (t : Work) × Works s t × (s' ≡ record s { work = Some (record t { drawn = Some v }) })
DrawLeaves (Err r) s s' = s' ≡ s

-- ---- the vertex

-- it is made with the number that was drawn, or memory ran out
abbrev pub MakeTells : ℕ → List ℕ → Result ℕ Refusal → List Told → Type 0
MakeTells v p (Ok w) ts = (w ≡ v) × Once (act.New v p) answer.Done ts
MakeTells v p (Err refusal.NoMemory) ts = Nothing ts
MakeTells v p (Err r) ts = ⊥
