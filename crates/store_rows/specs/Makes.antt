-- What making a vertex leaves of its row, and of the work.
use Rattle.std.specs.Prelude.{◌≡◌, ℕ, List, Option, Some, None}
use Rattle.core_rows.specs.Rows.{Row}
use Rattle.core_states.specs.declared.event.CoreAnswer.{CoreAnswer}
use Rattle.core_states.specs.declared.event.CoreAnswer.TheVariants as answer
use Rattle.core_states.specs.RowEvents.{Limits}
use Rattle.shard_state.specs.declared.who.Who.{Who}
use Rattle.shard_state.specs.Says.{Makes}
use Rattle.store_turns.specs.declared.session.Work.{Work}
use Rattle.store_turns.specs.Moves.{KeepsAll, MakesVertex}

-- Where it was made, that is the core's new of a number that the transaction drew; the row is as before elsewhere.
abbrev pub MakesRow : Limits → Who → ℕ → List ℕ → Row → Option CoreAnswer → Row → Type 0
MakesRow most who v p row None row' = row' ≡ row
MakesRow most who v p row (Some says) row' = (says ≡ answer.Done) × Makes most who v p row row'

-- The work has the vertex, and the number is used; nothing is another elsewhere.
abbrev pub MakesWork : ℕ → List ℕ → Option CoreAnswer → Work → Work → Type 0
MakesWork v p None t t' = KeepsAll t t'
MakesWork v p (Some says) t t' = MakesVertex v p t t'
