use Rattle.worker_runs.proofs.Noting.{worker_own, worker_others}
use Rattle.worker_runs.proofs.notes_of_a_worker_are_of_its_pass.Goals as goal

pub returns-clause-own : goal.returns-clause-own
returns-clause-own c = worker_own

pub returns-clause-others : goal.returns-clause-others
returns-clause-others c = worker_others
