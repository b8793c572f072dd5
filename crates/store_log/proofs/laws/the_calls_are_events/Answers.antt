use Rattle.store_log.proofs.Leaders.{append-event, fault-event, mend-event}
use Rattle.store_log.proofs.laws.the_calls_are_events.Goals as goal

pub returns-clause-append : goal.returns-clause-append
returns-clause-append c = append-event

pub returns-clause-fault : goal.returns-clause-fault
returns-clause-fault c = fault-event

pub returns-clause-mend : goal.returns-clause-mend
returns-clause-mend c = mend-event
