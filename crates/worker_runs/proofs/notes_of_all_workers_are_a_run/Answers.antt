use Rattle.worker_runs.proofs.Closes.{from_close}
use Rattle.worker_runs.proofs.notes_of_all_workers_are_a_run.Goals as goal

pub returns : goal.returns
returns c = from_close
