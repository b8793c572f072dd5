use Rattle.std.proofs.Common.{[], ap, arith}
use Rattle.std.proofs.lemmas.List.{at_drop_more}
use Rattle.block_reading.specs.RowLists.{lens_of}
use Rattle.block_reading.proofs.parts.payload_len.Goals as goal

pub overflow_add-len : goal.overflow_add-len
overflow_add-len c =
    let more = at_drop_more lens_of c.args.rows.now c.loop-row.row-index [] c.loop-row-test.true in
    let len = ap (λ r. r.len) c.read_row-len.ensures in omega (arith, more, len)

pub loop-row-preserved : goal.loop-row-preserved
loop-row-preserved c =
    let more = at_drop_more lens_of c.args.rows.now c.loop-row.row-index [] c.loop-row-test.true in
    let len = ap (λ r. r.len) c.read_row-len.ensures in omega (arith, more, len)
