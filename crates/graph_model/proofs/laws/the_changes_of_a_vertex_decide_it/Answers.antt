use Rattle.graph_model.proofs.Places.{vertex_at-after}
use Rattle.graph_model.proofs.laws.the_changes_of_a_vertex_decide_it.Goals as goal

pub returns : goal.returns
returns c = vertex_at-after
