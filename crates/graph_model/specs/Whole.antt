-- What every Graph shows: the numbers of its vertices and the labels of their lists rise, and no edge stands twice.
use Rattle.std.specs.Prelude.{ℕ, Bool, true, not, ◌&&◌, ◌==◌, nat_lt, List, [], ◌∷◌, length, map}
use Rattle.std.specs.List.{list_any, list_all}
use Rattle.graph_model.specs.declared.pairs.Pair.{Pair}
use Rattle.graph_model.specs.Vertex.{Vertex, LabelList}

-- the numbers differ
abbrev pub all_differ : List ℕ → Bool
all_differ [] = true
all_differ (x ∷ xs) = not (list_any (λ y. y == x) xs) && all_differ xs

-- whether numbers rise
abbrev pub rise : List ℕ → Bool
rise [] = true
rise (x ∷ xs) = list_all (nat_lt x) xs && rise xs

-- the destinations of edges differ
abbrev pub are_pairs : List Pair → Bool
are_pairs pairs = all_differ (map (λ z. z.d) pairs)

-- the lists of a vertex: the labels rise, no list is empty, and in each the destinations differ
abbrev pub are_lists : List LabelList → Bool
are_lists lists =
    rise (map (λ y. y.label) lists) && list_all (λ y. nat_lt 0 (length y.pairs) && are_pairs y.pairs) lists

-- a vertex's lists stand so
abbrev pub is_vertex : Vertex → Bool
is_vertex x = are_lists x.lists

-- what a Graph is seen as: one vertex for each number, the numbers rising
abbrev pub is_graph : List Vertex → Bool
is_graph graph = rise (map (λ x. x.number) graph) && list_all is_vertex graph
