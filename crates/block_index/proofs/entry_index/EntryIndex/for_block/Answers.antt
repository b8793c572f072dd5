use Rattle.std.proofs.Common.{◌^◌, ◌≤◌, arith}
use Rattle.std.proofs.Math.Pow.{pow_mono}
use Rattle.block_index.proofs.entry_index.EntryIndex.for_block.Goals as goal

pub returns-then-order-lt-INDEX_ORDER : goal.returns-then-order-lt-INDEX_ORDER
returns-then-order-lt-INDEX_ORDER c =
    let small : c.args.order ≤ 6 = omega (arith, c.if-order-lt-INDEX_ORDER.true) in
    let most : 2 ^ c.args.order ≤ 2 ^ 6 = pow_mono small in
    record { fresh = (tt, omega (arith, most)) }
