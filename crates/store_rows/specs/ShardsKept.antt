-- The value of a shard's turn by its fields.
use Rattle.tel_block.specs.Logs.{limit_of}
use Rattle.tel_block.specs.Places.{content_of, StandsIn, footprint_of}
use Rattle.turn_board.specs.Views.{ShardPlace}
use Rattle.shard_state.specs.Shards.{IsShard, HasLoaded}
use Rattle.shard_state.specs.RowLists.{rows_listed}
use Rattle.store_rows.specs.ShardValues.{ShardValue}
use Rattle.store_rows.specs.declared.shard_home.ShardHome.TheInside.{Inside}

abbrev pub place_in : Inside → ShardPlace
place_in a = record { number = a.shard.number; shards = a.shard.shards; log_most = a.shard.log_most; base = a.base.value }

abbrev pub shard_value : Inside → ShardValue
shard_value a = record { rows = rows_listed content_of a.shard; place = place_in a }

-- The rows stand in the pool, and those of the base are loaded.
pub record IsKept (a : Inside) : Type 0 where
  pub is : IsShard StandsIn footprint_of content_of limit_of a.shard
  pub loaded : HasLoaded a.base.value.graph a.shard
