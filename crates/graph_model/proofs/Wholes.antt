-- What every Graph shows stays so under each change.
use Rattle.std.proofs.Common.{◌≡◌, ℕ, Bool, true, false, not, cond, ◌&&◌, List, [], ◌∷◌, map, length, refl, ap, ◌∙◌, arith}
use Rattle.std.specs.Prelude.{◌==◌, nat_lt, Option, Some, None, IsTrue}
use Rattle.std.specs.List.{list_any, list_all}
use Rattle.std.proofs.lemmas.Bool.{and_parts, and_from}
use Rattle.std.proofs.lemmas.Bool.Decides.{nat_tests}
use Rattle.graph_model.specs.declared.change.Change.{Change}
use Rattle.graph_model.specs.declared.change.Change.TheVariants.{New, Set, Drop, Put, Del}
use Rattle.graph_model.specs.declared.pairs.Pair.{Pair}
use Rattle.graph_model.specs.Vertex.{Vertex, LabelList}
use Rattle.graph_model.specs.Change.{vertex_of}
use Rattle.graph_model.specs.Graph.{vertex_at, pairs_in, without_pair, with_list, set_list, lists_after_put, lists_after_del, vertex_after, with_vertex, set_vertex, apply, after}
use Rattle.graph_model.specs.Whole.{rise, are_pairs, are_lists, is_vertex, is_graph}
use Rattle.graph_model.proofs.Rising.{placed, list_all-placed, list_all-filter, rise-placed, rise-filter}

-- a list in its place among the labels
pub with_list-placed : (x : LabelList) (lists : List LabelList) → with_list x lists ≡ placed (λ y. y.label) x lists
with_list-placed x [] = refl
with_list-placed x (y ∷ lists) = ap (λ r. cond (nat_lt x.label y.label) (x ∷ y ∷ lists) (cond (x.label == y.label) (x ∷ lists) (y ∷ r))) (with_list-placed x lists)

-- a vertex in its place among the numbers
pub with_vertex-placed : (x : Vertex) (graph : List Vertex) → with_vertex x graph ≡ placed (λ y. y.number) x graph
with_vertex-placed x [] = refl
with_vertex-placed x (y ∷ graph) = ap (λ r. cond (nat_lt x.number y.number) (x ∷ y ∷ graph) (cond (x.number == y.number) (x ∷ graph) (y ∷ r))) (with_vertex-placed x graph)

-- the edges to other destinations have none to this one
pub without_pair-none : (d : ℕ) (pairs : List Pair) → list_any (λ y. y == d) (map (λ z. z.d) (without_pair d pairs)) ≡ false
without_pair-none d [] = refl
without_pair-none d (x ∷ pairs) = let rest = without_pair-none d pairs in grind (arith, nat_tests)

any-without : (n d : ℕ) (pairs : List Pair) → list_any (λ y. y == n) (map (λ z. z.d) pairs) ≡ false → list_any (λ y. y == n) (map (λ z. z.d) (without_pair d pairs)) ≡ false
any-without n d [] none = refl
any-without n d (x ∷ pairs) none =
    let rest = any-without n d pairs in grind (arith, nat_tests)

-- destinations that differ still do without one
pub are_pairs-without : (d : ℕ) (pairs : List Pair) → are_pairs pairs ≡ true → are_pairs (without_pair d pairs) ≡ true
are_pairs-without d [] differ = refl
are_pairs-without d (x ∷ pairs) differ =
    let rest = are_pairs-without d pairs in
    let apart = any-without x.d d pairs in
    grind (arith, nat_tests)

-- and with its edge in front again
pub are_pairs-put : (x : Pair) (pairs : List Pair) → are_pairs pairs ≡ true → are_pairs (x ∷ without_pair x.d pairs) ≡ true
are_pairs-put x pairs differ =
    let rest = are_pairs-without x.d pairs differ in
    let none = without_pair-none x.d pairs in
    grind (arith, nat_tests)

-- a list that is no list of the graph has no edges, so any list under a label is one of distinct destinations
abbrev is_list : LabelList → Bool
is_list y = nat_lt 0 (length y.pairs) && are_pairs y.pairs

pairs_in-differ : (l : ℕ) (lists : List LabelList) → list_all is_list lists ≡ true → are_pairs (pairs_in lists l) ≡ true
pairs_in-differ l [] all = refl
pairs_in-differ l (x ∷ lists) all =
    let rest = pairs_in-differ l lists in grind (arith, nat_tests)

-- the lists of a vertex stay so where one of them is set
pub are_lists-set_list : (l : ℕ) (pairs : List Pair) (lists : List LabelList) → are_pairs pairs ≡ true → are_lists lists ≡ true → are_lists (set_list l pairs lists) ≡ true
are_lists-set_list l [] lists differ whole =
    let parts = and_parts (rise (map (λ y. y.label) lists)) (list_all is_list lists) whole in
    and_from _ _ (rise-filter (λ y. y.label) (λ x. not (x.label == l)) lists parts.0) (list_all-filter is_list (λ x. not (x.label == l)) lists parts.1)
are_lists-set_list l (pair ∷ pairs) lists differ whole =
    let parts = and_parts (rise (map (λ y. y.label) lists)) (list_all is_list lists) whole in
    let x : LabelList = record { label = l; pairs = pair ∷ pairs } in
    let good : is_list x ≡ true = and_from (nat_lt 0 (length (pair ∷ pairs))) (are_pairs (pair ∷ pairs)) (grind (arith, nat_tests)) differ in
    ap are_lists (with_list-placed x lists) ∙ and_from _ _ (rise-placed (λ y. y.label) x lists parts.0) (list_all-placed (λ y. y.label) is_list x lists good parts.1)

pub are_lists-put : (l d : ℕ) (p : List ℕ) (lists : List LabelList) → are_lists lists ≡ true → are_lists (lists_after_put l d p lists) ≡ true
are_lists-put l d p lists whole =
    let parts = and_parts (rise (map (λ y. y.label) lists)) (list_all is_list lists) whole in
    are_lists-set_list l (record { d = d; p = p } ∷ without_pair d (pairs_in lists l)) lists (are_pairs-put (record { d = d; p = p }) (pairs_in lists l) (pairs_in-differ l lists parts.1)) whole

pub are_lists-del : (l d : ℕ) (lists : List LabelList) → are_lists lists ≡ true → are_lists (lists_after_del l d lists) ≡ true
are_lists-del l d lists whole =
    let parts = and_parts (rise (map (λ y. y.label) lists)) (list_all is_list lists) whole in
    are_lists-set_list l (without_pair d (pairs_in lists l)) lists (are_pairs-without d (pairs_in lists l) (pairs_in-differ l lists parts.1)) whole

-- what stands in a place is whole
abbrev pub is_place : Option Vertex → Bool
is_place None = true
is_place (Some x) = is_vertex x

-- where a graph is whole, each of its places is
pub vertex_at-whole : (v : ℕ) (graph : List Vertex) → list_all is_vertex graph ≡ true → is_place (vertex_at v graph) ≡ true
vertex_at-whole v [] all = refl
vertex_at-whole v (x ∷ graph) all =
    let parts = and_parts (is_vertex x) (list_all is_vertex graph) all in
    elim (x.number == v) as (λ b. is_place (cond b (Some x) (vertex_at v graph)) ≡ true) [ true ↦ parts.0 | false ↦ vertex_at-whole v graph parts.1 ]

place-after : (c : Change) (o : Option Vertex) → is_place o ≡ true → is_place (vertex_after c o) ≡ true
place-after (New v p) o whole = refl
place-after (Drop v) o whole = refl
place-after (Set v p) (Some x) whole = whole
place-after (Put v l d p) (Some x) whole = are_lists-put l d p x.lists whole
place-after (Del v l d) (Some x) whole = are_lists-del l d x.lists whole
place-after (Set v p) None whole = refl
place-after (Put v l d p) None whole = refl
place-after (Del v l d) None whole = refl

set_vertex-whole : (v : ℕ) (o : Option Vertex) (graph : List Vertex) → is_place o ≡ true → is_graph graph ≡ true → is_graph (set_vertex v o graph) ≡ true
set_vertex-whole v None graph good whole =
    let parts = and_parts (rise (map (λ y. y.number) graph)) (list_all is_vertex graph) whole in
    and_from _ _ (rise-filter (λ y. y.number) (λ x. not (x.number == v)) graph parts.0) (list_all-filter is_vertex (λ x. not (x.number == v)) graph parts.1)
set_vertex-whole v (Some x) graph good whole =
    let parts = and_parts (rise (map (λ y. y.number) graph)) (list_all is_vertex graph) whole in
    ap is_graph (with_vertex-placed x graph) ∙ and_from _ _ (rise-placed (λ y. y.number) x graph parts.0) (list_all-placed (λ y. y.number) is_vertex x graph good parts.1)

-- a change of what a Graph shows leaves what a Graph shows
pub is_graph-apply : (c : Change) (graph : List Vertex) → IsTrue (is_graph graph) → IsTrue (is_graph (apply c graph))
is_graph-apply c graph whole =
    let parts = and_parts (rise (map (λ y. y.number) graph)) (list_all is_vertex graph) whole in
    set_vertex-whole (vertex_of c) _ graph (place-after c (vertex_at (vertex_of c) graph) (vertex_at-whole (vertex_of c) graph parts.1)) whole

pub is_graph-after : (changes : List Change) (graph : List Vertex) → IsTrue (is_graph graph) → IsTrue (is_graph (after changes graph))
is_graph-after [] graph whole = whole
is_graph-after (c ∷ changes) graph whole = is_graph-after changes (apply c graph) (is_graph-apply c graph whole)
