use Rattle.store_log.proofs.Leaders.{epoch-within, may-write, members-fit}
use Rattle.store_log.proofs.laws.what_a_leader_collected_may_be_appended.Goals as goal

pub returns-clause-epoch : goal.returns-clause-epoch
returns-clause-epoch c = epoch-within

pub returns-clause-lawful : goal.returns-clause-lawful
returns-clause-lawful c = may-write

pub returns-clause-members : goal.returns-clause-members
returns-clause-members c = members-fit
