-- What a pool keeps: an index of the cells of its chunks.
use Rattle.std.specs.Prelude.{ℕ, ◌≡◌, ◌^◌, ◌<◌, All, List, map, vec_len}
use Rattle.block_pool.specs.Cells.{cell_of}
use Rattle.block_pool.specs.Pools.{ChunkContent, IsChunk}
use Rattle.block_pool.specs.declared.pool.Pool.TheInside.{Inside}

abbrev pub cells_of : List ChunkContent → List ℕ
cells_of chunks = map (λ x. cell_of x.order x.tree) chunks

pub record IsKeptPool (a : Inside) : Type 0 where
  pub index : a.index ≡ cells_of a.chunks.items
  pub few : vec_len a.chunks < 2 ^ 32
  pub whole : All IsChunk a.chunks.items
