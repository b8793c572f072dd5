-- A step of a walk over the lists of a vertex, and of one over the vertices of a graph: what it prints and what is left.
use Rattle.std.proofs.Common.{◌≡◌, ℕ, ◌+◌, true, false, cond, List, [], ◌∷◌, ◌++◌, map, length, flat_map, refl, sym, ap, ◌∙◌, arith}
use Rattle.std.specs.Prelude.{◌==◌, find, is_some, unwrap_or, IsTrue, Option, Some, None}
use Rattle.std.specs.List.{list_all}
use Rattle.std.proofs.lemmas.Bool.{and_parts, eqb-true}
use Rattle.std.proofs.lemmas.List.Sums.{sum_by-cons}
use Rattle.graph_model.specs.declared.pairs.Pair.{Pair}
use Rattle.graph_model.specs.Vertex.{Vertex, LabelList}
use Rattle.graph_model.specs.Graph.{vertex_at, pairs_in}
use Rattle.graph_model.specs.Whole.{rise, is_vertex, is_graph}
use Rattle.graph_model.specs.Walking.{first_from, numbers_of, labels_of, payload_of, pairs_of, where_any}
use Rattle.graph_model.proofs.Wholes.{is_place, vertex_at-whole}
use Rattle.graph_dump.specs.DumpText.{edge_line, vertex_line, list_text, vertex_text, edges_of, edge_count}
use Rattle.graph_dump.specs.PlaceText.{lists_at, lists_text, edges_in, place_text}
use Rattle.graph_dump.proofs.Rests.{from, left, from-start, left-first, find-number, from-found, first-found}

abbrev pub label : LabelList → ℕ
label y = y.label

abbrev pub number : Vertex → ℕ
number x = x.number

-- ---- the lists of a vertex

-- the labels are those of the lists
pub labels-at : (o : Option Vertex) → labels_of o ≡ map label (lists_at o)
labels-at None = refl
labels-at (Some x) = refl

-- and rise
pub labels-rise : (v : ℕ) (graph : List Vertex) → IsTrue (is_graph graph) → rise (map label (lists_at (vertex_at v graph))) ≡ true
labels-rise v graph whole =
    let parts = and_parts (rise (map (λ x. x.number) graph)) (list_all is_vertex graph) whole in
    rising (vertex_at v graph) (vertex_at-whole v graph parts.1)
  where
    rising : (o : Option Vertex) → is_place o ≡ true → rise (map label (lists_at o)) ≡ true
    rising None good = refl
    rising (Some x) good = (and_parts (rise (map label x.lists)) _ good).0

-- edges where there are any, or none
any-or_none : (pairs : List Pair) → unwrap_or (where_any pairs) [] ≡ pairs
any-or_none [] = refl
any-or_none (x ∷ pairs) = refl

-- the list that is found has the edges under the label
pairs_in-found : (l : ℕ) (y : LabelList) (lists : List LabelList) → find (λ z. label z == l) lists ≡ Some y → pairs_in lists l ≡ y.pairs
pairs_in-found l y [] at = (cc)
pairs_in-found l y (x ∷ lists) at =
    elim (x.label == l) as (λ b. cond b (Some x) (find (λ z. label z == l) lists) ≡ Some y → cond b x.pairs (pairs_in lists l) ≡ y.pairs) [
      | true ↦ λ is. let same : x ≡ y = (cc) in ap (λ (z : LabelList). z.pairs) same
      | false ↦ λ is. pairs_in-found l y lists is
    ] at

pub pairs_of-found : (l : ℕ) (y : LabelList) (o : Option Vertex) → find (λ z. label z == l) (lists_at o) ≡ Some y → unwrap_or (pairs_of o l) [] ≡ y.pairs
pairs_of-found l y None at = (cc)
pairs_of-found l y (Some x) at = any-or_none (pairs_in x.lists l) ∙ pairs_in-found l y x.lists at

-- at first all lists are left
pub lists-begin : (v : ℕ) (graph : List Vertex) (next : Option ℕ) → IsTrue (is_graph graph) → next ≡ first_from 0 (labels_of (vertex_at v graph)) → left label next (lists_at (vertex_at v graph)) ≡ lists_at (vertex_at v graph)
lists-begin v graph next whole is =
    let lists = lists_at (vertex_at v graph) in
    ap (λ n. left label n lists) (is ∙ ap (first_from 0) (labels-at (vertex_at v graph))) ∙ left-first label 0 lists (labels-rise v graph whole) ∙ from-start label lists

-- the next label has a list
pub lists-met : (n m : ℕ) (o : Option Vertex) (next : Option ℕ) → next ≡ first_from n (labels_of o) → next ≡ Some m → is_some (find (λ y. label y == m) (lists_at o)) ≡ true
lists-met n m o next is at = first-found label n m (lists_at o) (ap (first_from n) (sym (labels-at o)) ∙ sym is ∙ at)

-- What is left from a label on, which has a list: the edges of that list, and what is left above it.
pub record ListStep (v l : ℕ) (o : Option Vertex) (next : Option ℕ) : Type 0 where
  pub text : flat_map (list_text v) (left label (Some l) (lists_at o)) ≡ flat_map (edge_line v l) (unwrap_or (pairs_of o l) []) ++ flat_map (list_text v) (left label next (lists_at o))
  pub edges : edges_in (left label (Some l) (lists_at o)) ≡ length (unwrap_or (pairs_of o l) []) + edges_in (left label next (lists_at o))
  pub shorter : length (left label (Some l) (lists_at o)) ≡ 1 + length (left label next (lists_at o))

pub list-step : (v l : ℕ) (graph : List Vertex) (next : Option ℕ) → IsTrue (is_graph graph) → is_some (find (λ y. label y == l) (lists_at (vertex_at v graph))) ≡ true →
    next ≡ first_from (l + 1) (labels_of (vertex_at v graph)) → ListStep v l (vertex_at v graph) next
list-step v l graph next whole met is = found (find (λ y. label y == l) (lists_at (vertex_at v graph))) refl met
  where
    found : (o : Option LabelList) → find (λ y. label y == l) (lists_at (vertex_at v graph)) ≡ o → is_some o ≡ true → ListStep v l (vertex_at v graph) next
    found None at some = (cc)
    found (Some y) at some =
        let here = vertex_at v graph in
        let lists = lists_at here in
        let rises = labels-rise v graph whole in
        let above : left label next lists ≡ from label (l + 1) lists = ap (λ n. left label n lists) (is ∙ ap (first_from (l + 1)) (labels-at here)) ∙ left-first label (l + 1) lists rises in
        let these : from label l lists ≡ y ∷ left label next lists = from-found label l y lists rises at ∙ ap (λ r. y ∷ r) (sym above) in
        let pairs = pairs_of-found l y here at in
        let same : y.label ≡ l = eqb-true y.label l (find-number label l y lists at) in
        record {
          text = ap (flat_map (list_text v)) these
              ∙ ap (λ n. flat_map (edge_line v n) y.pairs ++ flat_map (list_text v) (left label next lists)) same
              ∙ ap (λ p. flat_map (edge_line v l) p ++ flat_map (list_text v) (left label next lists)) (sym pairs);
          edges = ap edges_in these ∙ sum_by-cons (λ (z : LabelList). length z.pairs) y (left label next lists) ∙ ap (λ p. length p + edges_in (left label next lists)) (sym pairs);
          shorter = let long = ap length these in omega arith;
        }

-- ---- the vertices of a graph

-- the numbers of the vertices rise
pub numbers-rise : (graph : List Vertex) → IsTrue (is_graph graph) → rise (map number graph) ≡ true
numbers-rise graph whole = (and_parts (rise (map number graph)) (list_all is_vertex graph) whole).0

pub vertices-begin : (graph : List Vertex) (next : Option ℕ) → IsTrue (is_graph graph) → next ≡ first_from 0 (numbers_of graph) → left number next graph ≡ graph
vertices-begin graph next whole is = ap (λ n. left number n graph) is ∙ left-first number 0 graph (numbers-rise graph whole) ∙ from-start number graph

pub vertices-met : (n m : ℕ) (graph : List Vertex) (next : Option ℕ) → next ≡ first_from n (numbers_of graph) → next ≡ Some m → is_some (vertex_at m graph) ≡ true
vertices-met n m graph next is at = first-found number n m graph (sym is ∙ at)

-- What is left from a vertex on that is there: that vertex, and what is left above it.
pub record VertexStep (v : ℕ) (graph : List Vertex) (next : Option ℕ) : Type 0 where
  pub text : flat_map vertex_text (left number (Some v) graph) ≡ place_text v (vertex_at v graph) ++ flat_map vertex_text (left number next graph)
  pub edges : edge_count (left number (Some v) graph) ≡ edges_in (lists_at (vertex_at v graph)) + edge_count (left number next graph)
  pub shorter : length (left number (Some v) graph) ≡ 1 + length (left number next graph)

pub vertex-step : (v : ℕ) (graph : List Vertex) (next : Option ℕ) → IsTrue (is_graph graph) → is_some (vertex_at v graph) ≡ true → next ≡ first_from (v + 1) (numbers_of graph) → VertexStep v graph next
vertex-step v graph next whole met is = found (vertex_at v graph) refl met
  where
    found : (o : Option Vertex) → vertex_at v graph ≡ o → is_some o ≡ true → VertexStep v graph next
    found None at some = (cc)
    found (Some x) at some =
        let rises = numbers-rise graph whole in
        let above : left number next graph ≡ from number (v + 1) graph = ap (λ n. left number n graph) is ∙ left-first number (v + 1) graph rises in
        let these : from number v graph ≡ x ∷ left number next graph = from-found number v x graph rises at ∙ ap (λ r. x ∷ r) (sym above) in
        let same : x.number ≡ v = eqb-true x.number v (find-number number v x graph at) in
        record {
          text = ap (flat_map vertex_text) these
              ∙ ap (λ n. place_text n (Some x) ++ flat_map vertex_text (left number next graph)) same
              ∙ ap (λ o. place_text v o ++ flat_map vertex_text (left number next graph)) (sym at);
          edges = ap edge_count these ∙ sum_by-cons edges_of x (left number next graph) ∙ ap (λ o. edges_in (lists_at o) + edge_count (left number next graph)) (sym at);
          shorter = let long = ap length these in omega arith;
        }

-- what is printed of a vertex that is there
pub place_text-there : (v : ℕ) (o : Option Vertex) (p : List ℕ) → Some p ≡ payload_of o → place_text v o ≡ vertex_line v p ++ lists_text v o
place_text-there v None p is = (cc)
place_text-there v (Some x) p is = let same : x.payload ≡ p = (cc) in ap (λ q. vertex_line v q ++ lists_text v (Some x)) same
