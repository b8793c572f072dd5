use Rattle.std.proofs.Common.{ap, ◌∙◌}
use Rattle.block_pool.specs.Pools.{chunk_at, with_part, out_blocks}
use Rattle.block_pool.proofs.WriteFacts.{out-written}
use Rattle.block_rows.proofs.pool.fill_by.Goals as goal

pub returns : goal.returns
returns c =
    let pool = c.args.pool.now in
    let to = c.args.to.now in
    ap out_blocks c.transfer.ensures.new_is ∙ out-written 0 to.chunk pool (with_part (chunk_at pool to.chunk).bytes to.start c.transfer.ensures.part)
