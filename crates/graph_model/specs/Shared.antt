-- How a list of edges is kept whose older edges are shared: edges of its own in front, and behind them the part that
-- it may share with other lists.
use Rattle.std.specs.Prelude.{◌^◌, ◌<◌, IsTrue, List, [], ◌++◌, Option, Some, None}
use Rattle.std.specs.Arc.{arc_value}
use Rattle.std.specs.declared.sync.Arc.{Arc}
use Rattle.graph_model.specs.declared.pairs.Pair.{Pair}
use Rattle.graph_model.specs.Whole.{are_pairs}
use Rattle.graph_model.specs.Sizes.{list_size}

-- the edges of the part that may be shared, where there is one
abbrev pub shared_edges : {Z : Type 0} → Option (Arc (List Pair) Z) → List Pair
shared_edges None = []
shared_edges (Some part) = arc_value part

-- the edges of the list, newest first
abbrev pub edges_of : {Z : Type 0} → List Pair → Option (Arc (List Pair) Z) → List Pair
edges_of front shared = front ++ shared_edges shared

-- The edges lead to distinct destinations, and their sizes have a sum.
pub record IsSummed (edges : List Pair) : Type 0 where
  pub differ : IsTrue (are_pairs edges)
  pub within : list_size edges < 2 ^ 64
