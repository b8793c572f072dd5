use Rattle.worker_runs.proofs.Closes.{are_told}
use Rattle.worker_runs.proofs.failed_records_are_told_where_replies_are_noted_so.Goals as goal

pub returns : goal.returns
returns c = are_told
