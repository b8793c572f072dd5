use Rattle.std.proofs.Common.{sym}
use Rattle.core_rows.proofs.LogLists.{log_at-some, log_at-none}
use Rattle.core_rows.proofs.core_row.CoreRow.has_edge.Goals as goal

pub returns-in-Some : goal.returns-in-Some
returns-in-Some c = rw (← c.self.view_is, log_at-some c.args.l c.self.inside.logs.entries c.in-Some.log.now (sym c.in-Some.ensures.value)) c.has_edge.ensures

pub returns-in-None : goal.returns-in-None
returns-in-None c = rw (← c.self.view_is, log_at-none c.args.l c.self.inside.logs.entries (sym c.in-None.ensures.value))
