use Rattle.graph_model.proofs.Wholes.{is_graph-after}
use Rattle.graph_model.proofs.laws.changes_leave_a_whole_graph.Goals as goal

pub returns : goal.returns
returns c = is_graph-after
