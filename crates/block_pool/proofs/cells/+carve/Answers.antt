use Rattle.std.proofs.Common.{ℕ, ◌-◌, List, sym, subst, arith}
use Rattle.std.proofs.lemmas.List.{length-set}
use Rattle.std.proofs.lemmas.Nat.{pow_pos}
use Rattle.block_pool.specs.Cells.{Holds, carved}
use borrow.Rule.Slice.PartMut.{put_mid}
use Rattle.block_pool.proofs.CellSteps.{pow-more, room_lower, carve_step}
use Rattle.block_pool.proofs.cells.+carve.Goals as goal

pub bounds-cells-0 : goal.bounds-cells-0
bounds-cells-0 t c = let a = pow-more c.args.own in let p = pow_pos c.args.own in omega (arith, a, p)

pub bounds-cells-upper : goal.bounds-cells-upper
bounds-cells-upper t c =
    (room_lower c.args.own c.power-upper.result c.args.cells.now c.carve.new.cells (omega arith) c.power-upper.ensures c.requires.long c.carve.auto.cells).1

pub mend-requires-clause-lower : goal.mend-requires-clause-lower
mend-requires-clause-lower t c =
    let has = room_lower c.args.own c.power-upper.result c.args.cells.now c.carve.new.cells (omega arith) c.power-upper.ensures c.requires.long c.carve.auto.cells in
    let len = length-set (put_mid 1 (c.power-upper.result - 1) c.args.cells.now c.carve.new.cells) c.power-upper.result c.bit.result in
    omega (arith, has.0, len)

pub mend-requires-clause-upper : goal.mend-requires-clause-upper
mend-requires-clause-upper t c =
    let has = room_lower c.args.own c.power-upper.result c.args.cells.now c.carve.new.cells (omega arith) c.power-upper.ensures c.requires.long c.carve.auto.cells in
    let len = length-set (put_mid 1 (c.power-upper.result - 1) c.args.cells.now c.carve.new.cells) c.power-upper.result c.bit.result in
    omega (arith, has.1, len)

pub returns : goal.returns
returns t c = subst (λ (cells : List ℕ). Holds c.args.own cells (carved (c.args.own - c.args.order))) (sym c.mend.ensures)
    (carve_step c.args.own c.args.order c.power-upper.result c.bit.result c.args.cells.now c.carve.new.cells c.if-own-order.false c.requires.order c.power-upper.ensures c.requires.long c.carve.auto.cells c.carve.ensures c.bit.ensures)
