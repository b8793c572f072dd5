-- What is printed of the place of a vertex, where one may stand or not.
use Rattle.std.specs.Prelude.{ℕ, List, [], ◌++◌, length, flat_map, sum_by, Option, Some, None}
use Rattle.graph_model.specs.Vertex.{Vertex, LabelList}
use Rattle.graph_dump.specs.DumpText.{vertex_line, list_text}

-- the lists of the vertex
abbrev pub lists_at : Option Vertex → List LabelList
lists_at None = []
lists_at (Some x) = x.lists

-- the edges of the vertex
abbrev pub lists_text : ℕ → Option Vertex → List ℕ
lists_text v here = flat_map (list_text v) (lists_at here)

-- how many edges these lists have
abbrev pub edges_in : List LabelList → ℕ
edges_in lists = sum_by (λ y. length y.pairs) lists

-- the vertex and its edges
abbrev pub place_text : ℕ → Option Vertex → List ℕ
place_text v None = []
place_text v (Some x) = vertex_line v x.payload ++ lists_text v (Some x)
