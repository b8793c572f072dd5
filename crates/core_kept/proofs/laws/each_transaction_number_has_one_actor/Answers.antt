use Rattle.core_kept.proofs.Drawing.{opened_tids, tids_drawn}
use Rattle.core_kept.proofs.laws.each_transaction_number_has_one_actor.Goals as goal

pub returns-clause-opened : goal.returns-clause-opened
returns-clause-opened c = opened_tids

pub returns-clause-kept : goal.returns-clause-kept
returns-clause-kept c = tids_drawn
