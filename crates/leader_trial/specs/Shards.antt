-- The rows of the one shard.
use Rattle.std.specs.Prelude.{List, [], ◌∷◌}
use Rattle.core_rows.specs.Rows.{Row}
use Rattle.core_states.specs.Parts.{VertexRow}
use Rattle.graph_model.specs.Records.{list_most, empty_base}
use Rattle.turn_board.specs.Views.{ShardPlace}

-- the one shard, whose logs are those of a run
abbrev pub first_place : ShardPlace
first_place = record { number = 0; shards = 1; log_most = list_most; base = empty_base }

-- that of the first vertex
abbrev pub first_row : Row → List VertexRow
first_row row = record { vertex = 1; row = row } ∷ []
