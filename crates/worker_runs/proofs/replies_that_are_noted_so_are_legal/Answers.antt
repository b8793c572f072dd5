use Rattle.worker_runs.proofs.Closes.{are_legal}
use Rattle.worker_runs.proofs.replies_that_are_noted_so_are_legal.Goals as goal

pub returns : goal.returns
returns c = are_legal
