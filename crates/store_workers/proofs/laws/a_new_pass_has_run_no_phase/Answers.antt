use Rattle.store_workers.proofs.Phasing.{none-ran}
use Rattle.store_workers.proofs.laws.a_new_pass_has_run_no_phase.Goals as goal

pub returns : goal.returns
returns c = none-ran
