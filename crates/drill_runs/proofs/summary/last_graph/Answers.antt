use Rattle.std.proofs.Common.{length, ap, arith}
use Rattle.graph_model.specs.Records.{all_changes}
use Rattle.graph_dump.specs.DumpText.{edge_count}
use Rattle.drill_runs.proofs.Edges.{at_edges}
use Rattle.drill_runs.proofs.summary.last_graph.Goals as goal

pub returns-in-Ok-clause-few : goal.returns-in-Ok-clause-few
returns-in-Ok-clause-few c =
    let all = at_edges c.args.base.now.graph c.args.records.now c.last_epoch-last.result c.at.ensures.whole in
    let graph = ap edge_count c.in-Ok.ensures.at in
    let same = ap (λ qs. length (all_changes qs)) c.as_slice.ensures in
    omega (arith, all, graph, same, c.in_ok-change_count.ensures, c.if-branch-ge-CHANGES_END.false, c.requires.few)
