-- The text of a graph: a line for its epoch, for each vertex and for each edge, and one for their numbers.
use Rattle.std.specs.Prelude.{ℕ, List, [], ◌∷◌, ◌++◌, length, flat_map, sum_by, codes}
use Rattle.graph_model.specs.declared.pairs.Pair.{Pair}
use Rattle.graph_model.specs.Vertex.{Vertex, LabelList}
use Rattle.graph_dump.specs.Lines.{line, payload_line}

-- the line of an epoch
abbrev pub epoch_line : ℕ → List ℕ
epoch_line epoch = line (codes "epoch") (epoch ∷ [])

-- the line of a vertex
abbrev pub vertex_line : ℕ → List ℕ → List ℕ
vertex_line v p = payload_line (codes "vertex") (v ∷ []) p

-- the line of an edge of a vertex under a label
abbrev pub edge_line : ℕ → ℕ → Pair → List ℕ
edge_line v l x = payload_line (codes "edge") (v ∷ l ∷ x.d ∷ []) x.p

-- the line of the numbers of vertices and edges
abbrev pub end_line : ℕ → ℕ → List ℕ
end_line vertices edges = line (codes "end") (vertices ∷ edges ∷ [])

-- the edges of a vertex under a label, newest first
abbrev pub list_text : ℕ → LabelList → List ℕ
list_text v list = flat_map (edge_line v list.label) list.pairs

-- a vertex and its edges, the labels rising
abbrev pub vertex_text : Vertex → List ℕ
vertex_text x = vertex_line x.number x.payload ++ flat_map (list_text x.number) x.lists

-- how many edges a vertex has
abbrev pub edges_of : Vertex → ℕ
edges_of x = sum_by (λ y. length y.pairs) x.lists

-- how many edges a graph has
abbrev pub edge_count : List Vertex → ℕ
edge_count graph = sum_by edges_of graph

-- what `dump` prints of a graph and its epoch, the vertices rising
abbrev pub text_of_graph : List Vertex → ℕ → List ℕ
text_of_graph graph epoch = epoch_line epoch ++ (flat_map vertex_text graph ++ end_line (length graph) (edge_count graph))
