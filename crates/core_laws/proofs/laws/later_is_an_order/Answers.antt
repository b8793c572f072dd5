use Rattle.core_laws.proofs.Orders.{later_self, later_still, log_self, log_still}
use Rattle.core_laws.proofs.laws.later_is_an_order.Goals as goal

pub returns-clause-same : goal.returns-clause-same
returns-clause-same c = later_self

pub returns-clause-still : goal.returns-clause-still
returns-clause-still c = later_still

pub returns-clause-same_log : goal.returns-clause-same_log
returns-clause-same_log c = log_self

pub returns-clause-still_log : goal.returns-clause-still_log
returns-clause-still_log c = log_still
