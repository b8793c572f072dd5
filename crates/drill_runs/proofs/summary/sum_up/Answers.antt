-- The line is that of the last graph.
use Rattle.std.proofs.Common.{◌≡◌, ℕ, List, length, sym, ap, ◌∙◌, subst}
use Rattle.std.specs.Prelude.{OnOk, OnErr}
use Rattle.io_edges.specs.Writes.{Appended, AppendedPart}
use Rattle.graph_model.specs.Vertex.{Vertex}
use Rattle.graph_model.specs.Graph.{at}
use Rattle.graph_model.specs.Records.{last_epoch}
use Rattle.graph_drill.specs.Summary.{summary_text}
use Rattle.log_commands.specs.declared.status.Status.{Status}
use Rattle.drill_runs.specs.Drills.{DrilledAs}
use Rattle.drill_runs.proofs.Summing.{drilled-as}
use Rattle.drill_runs.proofs.summary.sum_up.Goals as goal

pub returns-clause-drilled : goal.returns-clause-drilled
returns-clause-drilled g c = λ entry exit fault.
    let written = g.K.Sink.written in
    let faults = g.K.Sink.faults in
    let sink = c.args.sink.now in
    let sink' = c.print.new.sink in
    let graph = at c.args.base.now.graph c.args.records.now (last_epoch c.args.base.now.epoch c.args.records.now) in
    let text = summary_text graph (length c.args.records.now) in
    let is : summary_text c.in-Some.graph c.len-commits.result ≡ text =
    ap (λ (vs : List Vertex). summary_text vs c.len-commits.result) c.in-Some.ensures.graph ∙ ap (λ (n : ℕ). summary_text graph n) c.len-commits.ensures in
    subst (λ (s : Status). DrilledAs written faults sink sink' s entry exit text) (sym c.status_after.ensures)
    (drilled-as written faults sink sink' c.print.result c.args.mended entry exit text
    (subst (λ (t : List ℕ). OnOk c.print.result (Appended (written sink) (written sink') t)) is c.print.ensures.printed) c.print.ensures.write_fault
    (subst (λ (t : List ℕ). OnErr c.print.result (AppendedPart (written sink) (written sink') t)) is c.print.ensures.part) fault)
