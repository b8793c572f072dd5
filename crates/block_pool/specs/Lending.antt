-- What a chunk and a pool are once bytes that they lent were written.
use Rattle.std.specs.Prelude.{ℕ, List}
use Rattle.std.specs.Borrow.{Lends, MutBor, Fml, Array, u8}
use Rattle.block_pool.specs.Pools.{ChunkContent, with_part}
use Rattle.block_pool.specs.contracts.chunk.Chunk.{the_row}

-- s ends with its bytes from a place on those that were last behind r
abbrev pub LendsPart : MutBor ChunkContent → ℕ → MutBor (List ℕ) → Fml
LendsPart s from r = Lends the_row (Array u8 0) s r (λ w. record s.now { bytes = with_part s.now.bytes from w })
