-- How `run` ends, and what it leaves.
use Rattle.std.specs.Prelude.{◌≡◌, ℕ, Bool, List, [], Option}
use Rattle.graph_model.specs.declared.record.Record.{Record}
use Rattle.request_text.specs.declared.request.Line.{Line}
use Rattle.script_runs.specs.Runs.{shared}
use Rattle.log_commands.specs.declared.status.Status.{Status}
use Rattle.run_opening.specs.Script.{ReadScript}
use Rattle.run_ending.specs.declared.ended.Report.{Report}
use Rattle.run_ending.specs.Ran.{Ran}

-- The script of the source was read, and its requests have run, by so many workers.
pub record RanScript {D : Type 0} (told : D → Option (List ℕ)) (moment : D → ℕ) (images : D → ℕ → List ℕ → Type 0) (faults : D → ℕ) (settled : Bool) (workers : ℕ) (old new : D) (left left' : Option (List ℕ)) (report : Report) (s : Status) : Type 0 where
  pub script : List Line
  pub base : List Record
  pub read : ReadScript left left' script
  pub setup : report.setup ≡ []
  pub ran : Ran told moment images faults settled (shared script workers) base old new report s
