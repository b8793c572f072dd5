use Rattle.core_laws.proofs.FailedRecords.{fail_fails, failed_stays}
use Rattle.core_laws.proofs.laws.failed_records_stay_failed.Goals as goal

pub returns-clause-failed : goal.returns-clause-failed
returns-clause-failed c = fail_fails

pub returns-clause-kept : goal.returns-clause-kept
returns-clause-kept c = failed_stays
