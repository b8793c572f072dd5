use Rattle.std.proofs.Common.{List, sym, subst}
use Rattle.std.specs.Prelude.{Contains}
use Rattle.block_pool.specs.Blocks.{Area}
use Rattle.block_pool.specs.Pools.{chunk_at, with_part}
use Rattle.block_pool.proofs.WriteFacts.{out-written}
use Rattle.block_rows.proofs.pool.what_is_written_to_a_block_stands_there_alone.Goals as goal

pub bytes-requires : goal.bytes-requires
bytes-requires g c =
    subst (λ (xs : List Area). Contains xs c.taken-left.result)
    (sym (out-written 0 c.taken-left.result.chunk c.taken-right.new.pool (with_part (chunk_at c.taken-right.new.pool c.taken-left.result.chunk).bytes c.taken-left.result.start c.fill.new.self)))
    (c.taken-right.ensures.keeps c.taken-left.result c.taken-left.ensures.out)

pub bytes-requires-2 : goal.bytes-requires-2
bytes-requires-2 g c =
    subst (λ (xs : List Area). Contains xs c.taken-right.result)
    (sym (out-written 0 c.taken-left.result.chunk c.taken-right.new.pool (with_part (chunk_at c.taken-right.new.pool c.taken-left.result.chunk).bytes c.taken-left.result.start c.fill.new.self)))
    c.taken-right.ensures.out
