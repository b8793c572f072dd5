-- How a graph is kept: entries of maps that show its vertices and their lists.
use Rattle.std.specs.Prelude.{ℕ, List, map}
use Rattle.graph_model.specs.declared.pairs.Pair.{Pair}
use Rattle.graph_model.specs.Vertex.{Vertex, LabelList}

-- what is kept of a vertex under its number
pub record Content : Type 0 where
  pub payload : List ℕ
  pub lists : List LabelList

-- a label's list as it is shown
abbrev pub list_of : ℕ × List Pair → LabelList
list_of e = record { label = e.0; pairs = e.1 }

-- the lists of a vertex as they are shown
abbrev pub lists_of : List (ℕ × List Pair) → List LabelList
lists_of entries = map list_of entries

-- a vertex as it is shown
abbrev pub vertex_of_entry : ℕ × Content → Vertex
vertex_of_entry e = record { number = e.0; payload = e.1.payload; lists = e.1.lists }

-- the vertices as they are shown
abbrev pub vertices_of : List (ℕ × Content) → List Vertex
vertices_of entries = map vertex_of_entry entries
