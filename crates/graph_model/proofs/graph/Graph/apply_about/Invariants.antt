use Rattle.std.proofs.Common.{◌≡◌, List, take}
use Rattle.graph_model.specs.Vertex.{Vertex}
use Rattle.graph_model.specs.Graph.{vertex_at, after}
use Rattle.graph_model.proofs.graph.Graph.apply_about.Given as goal

-- each graph with the same vertex there has, after the changes so far, the vertex that is here
abbrev pub invariant-loop-change : goal.invariant-loop-change
invariant-loop-change l = (g : List Vertex) → vertex_at l.v g ≡ vertex_at l.v l.fn.self → vertex_at l.v (after (take l.change-index l.change-items) g) ≡ vertex_at l.v l.self
