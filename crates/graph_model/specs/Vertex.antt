-- What a graph shows of a vertex.
use Rattle.std.specs.Prelude.{ℕ, List}
use Rattle.graph_model.specs.declared.pairs.Pair.{Pair}

-- the edges of a vertex under a label, newest first
pub record LabelList : Type 0 where
  pub label : ℕ
  pub pairs : List Pair

-- a vertex: its payload, and its lists that are not empty, the labels rising
pub record Vertex : Type 0 where
  pub number : ℕ
  pub payload : List ℕ
  pub lists : List LabelList
