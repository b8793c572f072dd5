-- The labels still rise.
use Rattle.std.proofs.Common.{◌∙◌, ap, map}
use Rattle.graph_model.specs.Whole.{rise}
use Rattle.core_rows.specs.Rows.{log_at, ended_log}
use Rattle.core_rows.specs.LogMap.{logs_of}
use Rattle.core_rows.proofs.LogLists.{rise-with_log}
use Rattle.core_rows.proofs.core_row.CoreRow.del.Goals as goal

pub invariant_of-self-then-there : goal.invariant_of-self-then-there
invariant_of-self-then-there c =
    let logs = logs_of c.self.inside.logs.entries in
    let ended = rw c.if-there.true at c.in_ok-there.ensures.ended in
    ap (λ xs. rise (map (λ x. x.label) xs)) ended
    ∙ rise-with_log (record { label = c.args.l; log = ended_log c.args.d c.args.read c.args.tid (log_at logs c.args.l) }) logs c.self.invariant
