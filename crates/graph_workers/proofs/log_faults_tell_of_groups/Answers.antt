use Rattle.graph_workers.proofs.Faulting.{faults_told}
use Rattle.graph_workers.proofs.log_faults_tell_of_groups.Goals as goal

pub returns : goal.returns
returns c = faults_told
