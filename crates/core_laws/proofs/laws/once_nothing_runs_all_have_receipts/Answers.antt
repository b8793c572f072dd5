use Rattle.core_laws.proofs.AllEnded.{all_ended}
use Rattle.core_laws.proofs.laws.once_nothing_runs_all_have_receipts.Goals as goal

pub returns : goal.returns
returns c = all_ended
