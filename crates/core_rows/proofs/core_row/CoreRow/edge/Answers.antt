-- The edge that is asked for is the one that its label's log shows.
use Rattle.std.proofs.Common.{◌∙◌, sym, ap}
use Rattle.stamps.specs.Stamps.{Txn}
use Rattle.graph_model.specs.Graph.{edge_answer}
use Rattle.core_rows.specs.LogMap.{logs_of}
use Rattle.core_rows.proofs.LogLists.{log_at-some, log_at-none}
use Rattle.core_rows.proofs.Shown.{pairs_in-shown_lists}
use Rattle.core_rows.proofs.core_row.CoreRow.edge.Goals as goal

pub returns-in_default : goal.returns-in_default
returns-in_default c =
    rw (← c.self.view_is, pairs_in-shown_lists (logs_of c.self.inside.logs.entries) c.args.l c.args.read (Txn c.args.tid) c.self.invariant, log_at-none c.args.l c.self.inside.logs.entries (sym c.in_default.ensures.value))

pub returns-in-Some-2 : goal.returns-in-Some-2
returns-in-Some-2 c =
    rw (← c.self.view_is, pairs_in-shown_lists (logs_of c.self.inside.logs.entries) c.args.l c.args.read (Txn c.args.tid) c.self.invariant, log_at-some c.args.l c.self.inside.logs.entries c.in-Some.log.now (sym c.in-Some.ensures.value))
    (ap edge_answer (sym c.in-Some-2.is ∙ c.in_ok-pair.ensures))

pub returns-in-None : goal.returns-in-None
returns-in-None c =
    rw (← c.self.view_is, pairs_in-shown_lists (logs_of c.self.inside.logs.entries) c.args.l c.args.read (Txn c.args.tid) c.self.invariant, log_at-some c.args.l c.self.inside.logs.entries c.in-Some.log.now (sym c.in-Some.ensures.value))
    (ap edge_answer (sym c.in-None.is ∙ c.in_ok-pair.ensures))
