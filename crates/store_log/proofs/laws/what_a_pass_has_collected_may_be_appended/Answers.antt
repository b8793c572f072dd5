use Rattle.store_log.proofs.Passes.{can-append}
use Rattle.store_log.proofs.laws.what_a_pass_has_collected_may_be_appended.Goals as goal

pub returns : goal.returns
returns c = can-append
