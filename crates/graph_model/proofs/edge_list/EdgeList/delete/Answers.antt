-- A list without an edge is as sound as with it.
use Rattle.std.proofs.Common.{◌∙◌, ◌++◌, Some, subst, sym, ap}
use Rattle.graph_model.specs.Graph.{without_pair}
use Rattle.graph_model.specs.Shared.{shared_edges, edges_of, IsSummed}
use Rattle.graph_model.proofs.EdgeLists.{has_edge}
use Rattle.graph_model.proofs.Shared.{taken-front, summed-without, summed-either}
use Rattle.graph_model.proofs.edge_list.EdgeList.delete.Goals as goal

pub invariant_of-self : goal.invariant_of-self
invariant_of-self c =
    let front = c.self.inside.front in
    let old = subst (λ s. IsSummed (edges_of front s)) c.in-Some.is c.self.invariant in
    summed-either c.delete_before.result (edges_of front (Some c.in-Some.shared)) (without_pair c.args.d (edges_of front (Some c.in-Some.shared)))
    (edges_of c.delete_before.new.front (Some c.delete_before.new.shared)) old (summed-without c.args.d (edges_of front (Some c.in-Some.shared)) old)
    c.delete_before.ensures.taken c.delete_before.ensures.unchanged

pub invariant_of-self-in-None : goal.invariant_of-self-in-None
invariant_of-self-in-None c =
    let front = c.self.inside.front in
    let shared = c.self.inside.shared in
    let none = ap (λ s. has_edge c.args.d (shared_edges s)) c.in-None.is in
    subst IsSummed (sym (ap (λ f. f ++ shared_edges shared) c.delete.ensures ∙ taken-front c.args.d front (shared_edges shared) none))
    (summed-without c.args.d (edges_of front shared) c.self.invariant)
