-- A list with an edge put is sound, since the sizes still have a sum.
use Rattle.std.proofs.Common.{◌≡◌, ℕ, ◌+◌, ◌<◌, ◌^◌, ◌∙◌, ◌++◌, ◌∷◌, List, true, Some, subst, sym, ap, arith}
use Rattle.std.specs.Prelude.{Option, is_some}
use Rattle.std.specs.Option.{SomeIff}
use Rattle.graph_model.specs.declared.pairs.Pair.{Pair}
use Rattle.graph_model.specs.Change.{edge_size}
use Rattle.graph_model.specs.Sizes.{list_size}
use Rattle.graph_model.specs.Graph.{without_pair}
use Rattle.graph_model.specs.Shared.{shared_edges, edges_of, IsSummed}
use Rattle.graph_model.proofs.EdgeLists.{has_edge}
use Rattle.graph_model.proofs.Shared.{put-front, summed-put, summed-either, sum-within}
use Rattle.graph_model.proofs.edge_list.EdgeList.put.Goals as goal

-- the sizes with that of the edge have a sum
sized : (edges : List Pair) (x : Pair) (o : Option ℕ) (m n : ℕ) → SomeIff o (m + n < 2 ^ 64) (m + n) → is_some o ≡ true → m ≡ list_size edges → n ≡ edge_size x.p → list_size edges + edge_size x.p < 2 ^ 64
sized edges x o m n sum some whole one = let within = sum-within o m n sum some in omega (arith, within, whole, one)

pub invariant_of-self : goal.invariant_of-self
invariant_of-self c =
    let front = c.self.inside.front in
    let x = c.args.pair in
    let old = edges_of front (Some c.in-Some.shared) in
    let is = ap (edges_of front) c.in-Some.is in
    let was = subst IsSummed is c.self.invariant in
    let within = sized old x c.checked_add.result c.size.result c.size-2.result c.checked_add.ensures c.if-is_none.ensures
    (c.size.ensures ∙ ap list_size (sym c.self.view_is ∙ is)) c.size-2.ensures in
    summed-either c.put_before.result old (x ∷ without_pair x.d old) (edges_of c.put_before.new.front (Some c.put_before.new.shared)) was (summed-put x old was within)
    c.put_before.ensures.set c.put_before.ensures.unchanged

pub invariant_of-self-in-None : goal.invariant_of-self-in-None
invariant_of-self-in-None c =
    let front = c.self.inside.front in
    let shared = c.self.inside.shared in
    let x = c.args.pair in
    let old = edges_of front shared in
    let none = ap (λ s. has_edge x.d (shared_edges s)) c.in-None.is in
    let within = sized old x c.checked_add.result c.size.result c.size-2.result c.checked_add.ensures c.if-is_none.ensures
    (c.size.ensures ∙ ap list_size (sym c.self.view_is)) c.size-2.ensures in
    subst IsSummed (sym (ap (λ f. f ++ shared_edges shared) c.in_ok-put-in-None.ensures.set ∙ put-front x front (shared_edges shared) none)) (summed-put x old c.self.invariant within)
