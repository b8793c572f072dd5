-- What the value of a shard's turn shows.
use Rattle.std.specs.Prelude.{List}
use Rattle.core_states.specs.Parts.{VertexRow}
use Rattle.turn_board.specs.Views.{ShardPlace}

-- its rows, and which shard it is
pub record ShardValue : Type 0 where
  pub rows : List VertexRow
  pub place : ShardPlace
