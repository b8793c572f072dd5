-- A step of the walk over the lists of a vertex, and of that over the vertices of a graph: what is counted, and what is left.
use Rattle.std.proofs.Common.{◌≡◌, ℕ, ◌+◌, true, List, [], ◌∷◌, length, refl, sym, ap, ◌∙◌, arith}
use Rattle.std.specs.Prelude.{◌==◌, find, is_some, unwrap_or, IsTrue, Option, Some, None}
use Rattle.std.proofs.lemmas.List.Sums.{sum_by-cons}
use Rattle.graph_model.specs.Vertex.{Vertex, LabelList}
use Rattle.graph_model.specs.Graph.{vertex_at}
use Rattle.graph_model.specs.Whole.{is_graph}
use Rattle.graph_model.specs.Walking.{first_from, numbers_of, labels_of, pairs_of}
use Rattle.graph_dump.specs.DumpText.{edges_of, edge_count}
use Rattle.graph_dump.specs.PlaceText.{lists_at, edges_in}
use Rattle.graph_dump.proofs.Rests.{from, left, left-first, from-found}
use Rattle.graph_dump.proofs.Listing.{label, number, labels-at, labels-rise, pairs_of-found, numbers-rise}
use Rattle.graph_drill.specs.Summary.{pairs_sum, lists_sum, destination_sum}

-- What is left from a label on, which has a list: the edges of that list, and what is left above it.
pub record ListStep (l : ℕ) (o : Option Vertex) (next : Option ℕ) : Type 0 where
  pub edges : edges_in (left label (Some l) (lists_at o)) ≡ length (unwrap_or (pairs_of o l) []) + edges_in (left label next (lists_at o))
  pub sum : lists_sum (left label (Some l) (lists_at o)) ≡ pairs_sum (unwrap_or (pairs_of o l) []) + lists_sum (left label next (lists_at o))
  pub shorter : length (left label (Some l) (lists_at o)) ≡ 1 + length (left label next (lists_at o))

pub list-step : (v l : ℕ) (graph : List Vertex) (next : Option ℕ) → IsTrue (is_graph graph) → is_some (find (λ y. label y == l) (lists_at (vertex_at v graph))) ≡ true →
    next ≡ first_from (l + 1) (labels_of (vertex_at v graph)) → ListStep l (vertex_at v graph) next
list-step v l graph next whole met is = found (find (λ y. label y == l) (lists_at (vertex_at v graph))) refl met
  where
    found : (o : Option LabelList) → find (λ y. label y == l) (lists_at (vertex_at v graph)) ≡ o → is_some o ≡ true → ListStep l (vertex_at v graph) next
    found None at some = (cc)
    found (Some y) at some =
        let here = vertex_at v graph in
        let lists = lists_at here in
        let rises = labels-rise v graph whole in
        let above : left label next lists ≡ from label (l + 1) lists = ap (λ n. left label n lists) (is ∙ ap (first_from (l + 1)) (labels-at here)) ∙ left-first label (l + 1) lists rises in
        let these : from label l lists ≡ y ∷ left label next lists = from-found label l y lists rises at ∙ ap (λ r. y ∷ r) (sym above) in
        let pairs = pairs_of-found l y here at in
        record {
          edges = ap edges_in these ∙ sum_by-cons (λ (z : LabelList). length z.pairs) y (left label next lists) ∙ ap (λ p. length p + edges_in (left label next lists)) (sym pairs);
          sum = ap lists_sum these ∙ sum_by-cons (λ (z : LabelList). pairs_sum z.pairs) y (left label next lists) ∙ ap (λ p. pairs_sum p + lists_sum (left label next lists)) (sym pairs);
          shorter = let long = ap length these in omega arith;
        }

-- What is left from a vertex on that is there: its edges, and what is left above it.
pub record VertexStep (v : ℕ) (graph : List Vertex) (next : Option ℕ) : Type 0 where
  pub edges : edge_count (left number (Some v) graph) ≡ edges_in (lists_at (vertex_at v graph)) + edge_count (left number next graph)
  pub sum : destination_sum (left number (Some v) graph) ≡ lists_sum (lists_at (vertex_at v graph)) + destination_sum (left number next graph)
  pub shorter : length (left number (Some v) graph) ≡ 1 + length (left number next graph)

pub vertex-step : (v : ℕ) (graph : List Vertex) (next : Option ℕ) → IsTrue (is_graph graph) → is_some (vertex_at v graph) ≡ true → next ≡ first_from (v + 1) (numbers_of graph) → VertexStep v graph next
vertex-step v graph next whole met is = found (vertex_at v graph) refl met
  where
    found : (o : Option Vertex) → vertex_at v graph ≡ o → is_some o ≡ true → VertexStep v graph next
    found None at some = (cc)
    found (Some x) at some =
        let rises = numbers-rise graph whole in
        let above : left number next graph ≡ from number (v + 1) graph = ap (λ n. left number n graph) is ∙ left-first number (v + 1) graph rises in
        let these : from number v graph ≡ x ∷ left number next graph = from-found number v x graph rises at ∙ ap (λ r. x ∷ r) (sym above) in
        record {
          edges = ap edge_count these ∙ sum_by-cons edges_of x (left number next graph) ∙ ap (λ o. edges_in (lists_at o) + edge_count (left number next graph)) (sym at);
          sum = ap destination_sum these ∙ sum_by-cons (λ (z : Vertex). lists_sum z.lists) x (left number next graph) ∙ ap (λ o. lists_sum (lists_at o) + destination_sum (left number next graph)) (sym at);
          shorter = let long = ap length these in omega arith;
        }
