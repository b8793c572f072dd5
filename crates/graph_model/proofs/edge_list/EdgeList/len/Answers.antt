-- The edges are so few that they can be counted.
use Rattle.std.proofs.Common.{arith, subst, ap, length}
use Rattle.std.specs.Arc.{arc_value}
use Rattle.graph_model.specs.Shared.{edges_of, IsSummed}
use Rattle.graph_model.proofs.Shared.{length-within}
use Rattle.graph_model.proofs.edge_list.EdgeList.len.Goals as goal

pub overflow_add-result : goal.overflow_add-result
overflow_add-result c =
    let few = length-within c.self.inside.front (arc_value c.in-Some.shared) (subst (λ s. IsSummed (edges_of c.self.inside.front s)) c.in-Some.is c.self.invariant) in
    let behind = ap length c.deref.ensures in
    omega (arith, few, behind, c.len.ensures, c.len-in-Some.ensures)
