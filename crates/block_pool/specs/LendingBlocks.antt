-- What a pool is once the bytes of a block that it lent were written.
use Rattle.std.specs.Prelude.{ℕ, List}
use Rattle.std.specs.Borrow.{Lends, MutBor, Fml, Array, u8}
use Rattle.block_pool.specs.Blocks.{Area}
use Rattle.block_pool.specs.Pools.{ChunkContent, with_bytes}
use Rattle.block_pool.specs.contracts.pool.Pool.{the_row}

-- s ends with those bytes in the block that were last behind r
abbrev pub LendsBlock : MutBor (List ChunkContent) → Area → MutBor (List ℕ) → Fml
LendsBlock s b r = Lends the_row (Array u8 0) s r (with_bytes s.now b.chunk b.start)
