-- What the edges of a list take in its log.
use Rattle.std.specs.Prelude.{ℕ, List, Option, Some, None, sum_by}
use Rattle.graph_model.specs.declared.pairs.Pair.{Pair}
use Rattle.graph_model.specs.Vertex.{Vertex}
use Rattle.graph_model.specs.Change.{edge_size}
use Rattle.graph_model.specs.Graph.{pairs_in}

-- what the edges of a list take
abbrev pub list_size : List Pair → ℕ
list_size pairs = sum_by (λ x. edge_size x.p) pairs

-- what the edges of a vertex under a label take
abbrev pub size_of_list : Option Vertex → ℕ → ℕ
size_of_list None l = 0
size_of_list (Some x) l = list_size (pairs_in x.lists l)
