-- The labels stay.
use Rattle.std.proofs.Common.{◌∙◌, ap, map}
use Rattle.graph_model.specs.Whole.{rise}
use Rattle.edge_log.specs.Contents.{with_undone}
use Rattle.core_rows.specs.LogMap.{logs_of}
use Rattle.core_rows.proofs.LogLists.{labels-each}
use Rattle.core_rows.proofs.core_row.CoreRow.undo.Goals as goal

pub invariant_of-self : goal.invariant_of-self
invariant_of-self c =
    ap (λ xs. rise (map (λ x. x.label) xs)) c.undo_logs.ensures ∙ ap rise (labels-each (with_undone c.args.tid) (logs_of c.self.inside.logs.entries)) ∙ c.self.invariant
