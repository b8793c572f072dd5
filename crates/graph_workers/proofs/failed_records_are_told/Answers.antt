use Rattle.graph_workers.proofs.Failures.{failed_of_scripts, failed_told}
use Rattle.graph_workers.proofs.failed_records_are_told.Goals as goal

pub returns-clause-scripts : goal.returns-clause-scripts
returns-clause-scripts c = failed_of_scripts

pub returns-clause-lines : goal.returns-clause-lines
returns-clause-lines c = λ base found lines seat closed good seated A. failed_told base found lines closed good A seat seated
