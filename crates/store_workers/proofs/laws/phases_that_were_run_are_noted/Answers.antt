use Rattle.std.proofs.Common.{sym}
use Rattle.store_workers.proofs.Phasing.{all-did}
use Rattle.store_workers.proofs.laws.phases_that_were_run_are_noted.Goals as goal

pub returns-clause-did : goal.returns-clause-did
returns-clause-did c = all-did

pub returns-clause-len : goal.returns-clause-len
returns-clause-len c = λ phases replies v has. sym has.len

pub returns-clause-last : goal.returns-clause-last
returns-clause-last c = λ phases replies v has. has.last
