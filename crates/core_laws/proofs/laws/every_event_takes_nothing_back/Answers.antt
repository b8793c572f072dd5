use Rattle.core_laws.proofs.FailedRecords.{receipts_stay}
use Rattle.core_laws.proofs.Laters.{kept_later, later_log}
use Rattle.core_laws.proofs.laws.every_event_takes_nothing_back.Goals as goal

pub returns-clause-clock : goal.returns-clause-clock
returns-clause-clock c = kept_later

pub returns-clause-log : goal.returns-clause-log
returns-clause-log c = later_log

pub returns-clause-receipts : goal.returns-clause-receipts
returns-clause-receipts c = receipts_stay
