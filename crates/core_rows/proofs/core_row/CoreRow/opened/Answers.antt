-- The labels of the graph rise.
use Rattle.std.proofs.Common.{◌∙◌, ap, map}
use Rattle.graph_model.specs.Graph.{vertex_at}
use Rattle.graph_model.specs.Whole.{rise}
use Rattle.core_rows.specs.Openings.{lists_in}
use Rattle.core_rows.proofs.OpenedLogs.{labels-opened, labels-rise}
use Rattle.core_rows.proofs.core_row.CoreRow.opened.Goals as goal

pub invariant_of-row : goal.invariant_of-row
invariant_of-row c =
    ap (λ xs. rise (map (λ x. x.label) xs)) c.in_ok-row-inside.ensures ∙ ap rise (labels-opened c.args.epoch (lists_in (vertex_at c.args.v c.args.graph.now))) ∙ labels-rise c.args.v c.args.graph.now c.requires
