use Rattle.graph_model.proofs.Places.{vertex_at-apply_at}
use Rattle.graph_model.proofs.laws.a_change_touches_its_vertex_alone.Goals as goal

pub returns : goal.returns
returns c = vertex_at-apply_at
