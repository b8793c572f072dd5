-- What a read makes of the core.
use Rattle.std.specs.Prelude.{List, Option, Some, None, Result, Ok, Err}
use Rattle.graph_model.specs.declared.query.Query.{Query}
use Rattle.graph_model.specs.declared.query.Answer.{Answer}
use Rattle.graph_model.specs.declared.no_memory.NoMemory.{NoMemory}
use Rattle.core_calls.specs.Calls.{Reads, ReadsNone}
use Rattle.core_calls.specs.Events.{Told}
use Rattle.core_states.specs.declared.event.CoreAnswer.{CoreAnswer}
use Rattle.core_states.specs.declared.event.CoreAnswer.TheVariants as answer

-- how a read ends that is answered so
abbrev pub shown_by : Option CoreAnswer → Result Answer NoMemory
shown_by None = Err (record {})
shown_by (Some (answer.Shown x)) = Ok x
shown_by (Some says) = Err (record {})

-- It was read, or memory ran out.
abbrev pub ReadTells : Query → Result Answer NoMemory → List Told → Type 0
ReadTells q (Ok x) ts = Reads q x ts
ReadTells q (Err e) ts = ReadsNone q ts
