use Rattle.worker_runs.proofs.Example.{can_note}
use Rattle.worker_runs.proofs.a_worker_can_note_so.Goals as goal

pub returns : goal.returns
returns c = can_note
