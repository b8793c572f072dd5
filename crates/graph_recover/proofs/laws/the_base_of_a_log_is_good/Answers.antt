use Rattle.graph_recover.proofs.Goodness.{base-good}
use Rattle.graph_recover.proofs.laws.the_base_of_a_log_is_good.Goals as goal

pub returns : goal.returns
returns c = base-good
