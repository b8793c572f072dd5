use Rattle.worker_runs.proofs.Closes.{tell_of_groups}
use Rattle.worker_runs.proofs.log_faults_that_are_noted_so_tell_of_groups.Goals as goal

pub returns : goal.returns
returns c = tell_of_groups
