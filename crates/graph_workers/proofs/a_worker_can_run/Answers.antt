use Rattle.graph_workers.proofs.Example.{name, can_run, can_fault, can_fail}
use Rattle.graph_workers.proofs.a_worker_can_run.Goals as goal

pub returns-clause-runs : goal.returns-clause-runs
returns-clause-runs c = can_run

pub returns-clause-faults : goal.returns-clause-faults
returns-clause-faults c = (name 0 0, can_fault.0, can_fault.1, can_fault.2)

pub returns-clause-failed : goal.returns-clause-failed
returns-clause-failed c = can_fail
