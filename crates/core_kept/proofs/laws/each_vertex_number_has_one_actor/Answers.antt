use Rattle.core_kept.proofs.Drawing.{opened_vertices, vertices_drawn}
use Rattle.core_kept.proofs.laws.each_vertex_number_has_one_actor.Goals as goal

pub returns-clause-opened : goal.returns-clause-opened
returns-clause-opened c = opened_vertices

pub returns-clause-kept : goal.returns-clause-kept
returns-clause-kept c = vertices_drawn
