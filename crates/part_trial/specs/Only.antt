-- A shard that has all vertices.
use Rattle.std.specs.Prelude.{◌≡◌}
use Rattle.block_pool.specs.declared.pool.Pool.{Pool}
use Rattle.tel_block.specs.declared.log.TelBlock.{TelBlock}
use Rattle.tel_block.specs.Logs.{limit_of}
use Rattle.tel_block.specs.Places.{content_of, StandsIn, footprint_of}
use Rattle.shard_state.specs.declared.shard.Shard.{Shard}
use Rattle.shard_state.specs.Shards.{IsShard}

-- it is the only one, and its rows stand in its pool
abbrev pub IsOnly : Shard TelBlock Pool → Type 0
IsOnly shard = IsShard StandsIn footprint_of content_of limit_of shard × (shard.number ≡ 0) × (shard.shards ≡ 1)
