use Rattle.graph_model.proofs.Snapshots.{at-prefix}
use Rattle.graph_model.proofs.laws.a_snapshot_is_of_the_records_up_to_it.Goals as goal

pub returns : goal.returns
returns c = at-prefix
