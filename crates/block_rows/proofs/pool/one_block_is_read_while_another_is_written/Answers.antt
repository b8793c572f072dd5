use Rattle.std.proofs.Common.{List, sym, subst, ◌∙◌}
use Rattle.std.specs.Prelude.{Contains}
use Rattle.block_pool.specs.Blocks.{Area}
use Rattle.block_pool.specs.Pools.{chunk_at, with_part}
use Rattle.block_pool.proofs.WriteFacts.{out-written}
use Rattle.block_rows.proofs.pool.one_block_is_read_while_another_is_written.Goals as goal

pub fill_by-requires-clause-from : goal.fill_by-requires-clause-from
fill_by-requires-clause-from g c =
    let first = c.taken-first.result in
    let pool = c.taken-third.new.pool in
    let same = out-written 0 first.chunk pool (with_part (chunk_at pool first.chunk).bytes first.start c.fill.new.self) in
    subst (λ (xs : List Area). Contains xs first) (sym same) (c.taken-third.ensures.keeps first (c.taken-second.ensures.keeps first c.taken-first.ensures.out))

pub fill_by-requires-2-clause-to : goal.fill_by-requires-2-clause-to
fill_by-requires-2-clause-to g c =
    let first = c.taken-first.result in
    let second = c.taken-second.result in
    let pool = c.taken-third.new.pool in
    let same = c.fill_by.ensures ∙ out-written 0 first.chunk pool (with_part (chunk_at pool first.chunk).bytes first.start c.fill.new.self) in
    subst (λ (xs : List Area). Contains xs second) (sym same) (c.taken-third.ensures.keeps second c.taken-second.ensures.out)

pub bytes-requires-2 : goal.bytes-requires-2
bytes-requires-2 g c =
    let first = c.taken-first.result in
    let second = c.taken-second.result in
    let pool = c.taken-third.new.pool in
    let same = c.fill_by-2.ensures ∙ c.fill_by.ensures ∙ out-written 0 first.chunk pool (with_part (chunk_at pool first.chunk).bytes first.start c.fill.new.self) in
    subst (λ (xs : List Area). Contains xs second) (sym same) (c.taken-third.ensures.keeps second c.taken-second.ensures.out)
