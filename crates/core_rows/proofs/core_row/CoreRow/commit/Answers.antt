-- The labels stay.
use Rattle.std.proofs.Common.{◌∙◌, ap, map}
use Rattle.graph_model.specs.Whole.{rise}
use Rattle.core_rows.specs.Rows.{committed_log}
use Rattle.core_rows.specs.LogMap.{logs_of}
use Rattle.core_rows.proofs.LogLists.{labels-each}
use Rattle.core_rows.proofs.core_row.CoreRow.commit.Goals as goal

pub invariant_of-self : goal.invariant_of-self
invariant_of-self c =
    ap (λ xs. rise (map (λ x. x.label) xs)) c.commit_logs.ensures ∙ ap rise (labels-each (committed_log c.args.tid c.args.epoch) (logs_of c.self.inside.logs.entries)) ∙ c.self.invariant
