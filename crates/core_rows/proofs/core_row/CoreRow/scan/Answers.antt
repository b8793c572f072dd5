-- The edges of a label are those that its log shows.
use Rattle.std.proofs.Common.{sym, ap}
use Rattle.stamps.specs.Stamps.{Txn}
use Rattle.graph_model.specs.declared.query.Answer.TheVariants.{Edges}
use Rattle.core_rows.specs.LogMap.{logs_of}
use Rattle.core_rows.proofs.LogLists.{log_at-some, log_at-none}
use Rattle.core_rows.proofs.Shown.{pairs_in-shown_lists}
use Rattle.core_rows.proofs.core_row.CoreRow.scan.Goals as goal

pub returns-in_ok-pairs-in-Some : goal.returns-in_ok-pairs-in-Some
returns-in_ok-pairs-in-Some c =
    rw (← c.self.view_is, pairs_in-shown_lists (logs_of c.self.inside.logs.entries) c.args.l c.args.read (Txn c.args.tid) c.self.invariant, log_at-some c.args.l c.self.inside.logs.entries c.in-Some.log.now (sym c.in-Some.ensures.value))
    (ap Edges c.in_ok-pairs-in-Some.ensures)

pub returns-in-None : goal.returns-in-None
returns-in-None c =
    rw (← c.self.view_is, pairs_in-shown_lists (logs_of c.self.inside.logs.entries) c.args.l c.args.read (Txn c.args.tid) c.self.invariant, log_at-none c.args.l c.self.inside.logs.entries (sym c.in-None.ensures.value))
    (ap Edges c.new.ensures)
