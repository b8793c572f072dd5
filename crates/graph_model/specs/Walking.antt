-- What a walk over a graph finds: the next vertex, the next label, and what stands there.
use Rattle.std.specs.Prelude.{ℕ, nat_le, List, [], ◌∷◌, map, find, Option, Some, None}
use Rattle.graph_model.specs.declared.pairs.Pair.{Pair}
use Rattle.graph_model.specs.Vertex.{Vertex}
use Rattle.graph_model.specs.Graph.{pairs_in}

-- the first of these numbers that is at least n, which is the least where they rise
abbrev pub first_from : ℕ → List ℕ → Option ℕ
first_from n numbers = find (nat_le n) numbers

-- the numbers of the vertices
abbrev pub numbers_of : List Vertex → List ℕ
numbers_of graph = map (λ x. x.number) graph

-- the labels of the lists of a vertex
abbrev pub labels_of : Option Vertex → List ℕ
labels_of None = []
labels_of (Some x) = map (λ y. y.label) x.lists

-- the payload of a vertex
abbrev pub payload_of : Option Vertex → Option (List ℕ)
payload_of None = None
payload_of (Some x) = Some x.payload

-- edges, where there are any
abbrev pub where_any : List Pair → Option (List Pair)
where_any [] = None
where_any (x ∷ pairs) = Some (x ∷ pairs)

-- the edges of a vertex under a label, newest first, where there are any
abbrev pub pairs_of : Option Vertex → ℕ → Option (List Pair)
pairs_of None l = None
pairs_of (Some x) l = where_any (pairs_in x.lists l)
