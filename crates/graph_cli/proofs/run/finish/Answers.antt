-- The status of a run is by its printing and the last mending.
use Rattle.std.proofs.Common.{ap, ◌∙◌}
use Rattle.graph_cli.proofs.run.finish.Goals as goal

pub returns-clause-status : goal.returns-clause-status
returns-clause-status g c = (c.print.result, ap (λ e. e.status) c.after_run.ensures ∙ c.status_after-status.ensures)
