-- How a drill ends, and what it leaves.
use Rattle.std.specs.Prelude.{◌≡◌, ◌⊎◌, ℕ, ◌+◌, ◌≤◌, ◌^◌, Bool, List, length, Option}
use Rattle.graph_model.specs.declared.record.Record.{Record}
use Rattle.graph_model.specs.Graph.{at}
use Rattle.graph_model.specs.Records.{last_epoch}
use Rattle.graph_legal.specs.Lines.{Phase}
use Rattle.graph_recover.specs.Bases.{base_of}
use Rattle.graph_drill.specs.Scripts.{first_script, second_script}
use Rattle.graph_drill.specs.Summary.{summary_text}
use Rattle.script_runs.specs.Runs.{shared_behind}
use Rattle.log_commands.specs.declared.status.Status.{Status}
use Rattle.log_commands.specs.declared.status.Status.TheVariants as status
use Rattle.run_opening.specs.Drill.{Undrilled}
use Rattle.run_ending.specs.declared.ended.Report.{Report}
use Rattle.run_ending.specs.declared.ended.Ended.{Ended}
use Rattle.run_ending.specs.Report.{empty_report}
use Rattle.run_ending.specs.Ran.{Refused, Ran, RanAs}
use Rattle.drill_runs.specs.declared.running.Plan.{Plan}

-- the two scripts of a drill, where the next vertex has this number: the first for one worker, the second for those of the plan
abbrev pub drilled : Plan → ℕ → List Phase
drilled plan next_vertex = shared_behind (first_script plan.sessions) (second_script plan.seed next_vertex plan.sessions plan.rounds) plan.workers

-- what is printed: the summary of the graph after the last record, and of so many commits as there are records
abbrev pub drill_text : Report → List ℕ
drill_text report = summary_text (at report.base report.records (last_epoch report.base_epoch report.records)) (length report.records)

-- Both scripts have run, over the base of these records.
pub record RanDrill {D : Type 0} (told : D → Option (List ℕ)) (moment : D → ℕ) (images : D → ℕ → List ℕ → Type 0) (faults : D → ℕ) (settled : Bool) (plan : Plan) (old new : D) (report : Report) (s : Status) : Type 0 where
  pub base : List Record
  pub numbers : (base_of base).next_vertex + plan.sessions ≤ 2 ^ 62
  pub ran : Ran told moment images faults settled (drilled plan (base_of base).next_vertex) base old new report s

-- What the status of a drill says of the sink: as after a run; or memory ran out behind both scripts, and nothing was printed.
abbrev pub DrilledAs : {K : Type 0} → (K → Option (List ℕ)) → (K → ℕ) → K → K → Status → ℕ → ℕ → List ℕ → Type 0
DrilledAs written sink_faults sink sink' status.NoMemory entry exit text = sink' ≡ sink
DrilledAs written sink_faults sink sink' s entry exit text = RanAs s (written sink) (written sink') (sink_faults sink) (sink_faults sink') entry exit text

-- A drill was refused before its first request, and nothing was printed; or both scripts have run.
abbrev pub EndsDrill : {K D : Type 0} → (K → Option (List ℕ)) → (K → ℕ) → (D → Option (List ℕ)) → (D → ℕ) → (D → ℕ → List ℕ → Type 0) → (D → ℕ) → K → K → Bool → D → Ended D → Plan → Type 0
EndsDrill written sink_faults told moment images faults sink sink' settled old ended plan =
    (Refused told moment images faults old ended.disk ended.status (Undrilled plan.sessions ended.status (told old) (faults old) (faults ended.disk))
    × (sink' ≡ sink) × (ended.report ≡ empty_report))
    ⊎ (RanDrill told moment images faults settled plan old ended.disk ended.report ended.status
    × DrilledAs written sink_faults sink sink' ended.status (faults old) (faults ended.disk) (drill_text ended.report))
