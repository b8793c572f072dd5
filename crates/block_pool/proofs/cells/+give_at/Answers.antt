use Rattle.std.proofs.Common.{◌<◌, arith}
use Rattle.std.proofs.lemmas.Nat.{pow_pos}
use Rattle.block_pool.proofs.CellSteps.{pow-more, room_lower, room_upper}
use Rattle.block_pool.proofs.TakeSteps.{long_lower, long_upper}
use Rattle.block_pool.proofs.GiveSteps.{given_here, ask_out_lower, ask_out_upper, given_lower, given_upper}
use Rattle.block_pool.proofs.cells.+give_at.Goals as goal

pub bounds-cells-0 : goal.bounds-cells-0
bounds-cells-0 t c = let a = pow-more c.args.own in let p = pow_pos c.args.own in omega (arith, a, p)

pub returns-then-own-order : goal.returns-then-own-order
returns-then-own-order t c = λ tree held out.
    given_here c.args.own c.args.order c.args.unit c.bit.result c.args.cells.now tree c.if-own-order.true
    (let a = pow-more c.args.own in let p = pow_pos c.args.own in omega (arith, a, p)) c.bit.ensures out

pub give_at-requires : goal.give_at-requires
give_at-requires t c =
    let some : 0 < c.args.own = omega arith in (
      omega arith,
      (
        (omega arith, omega arith),
        (
          long_lower c.args.own c.power-upper.result c.args.cells.now some c.power-upper.ensures c.requires.long,
          ask_out_lower c.args.own c.args.order c.args.unit c.power-upper.result c.power-half.result c.args.cells.now c.requires.tree.0 c.if-own-order.false some c.power-upper.ensures c.power-half.ensures c.if-unit-half.true
              c.requires.tree.1.0 c.requires.tree.1.1,
        ),
      ),
    )

pub join-requires-clause-lower : goal.join-requires-clause-lower
join-requires-clause-lower t c =
    (room_lower c.args.own c.power-upper.result c.args.cells.now c.give_at.new.cells (omega arith) c.power-upper.ensures c.requires.long c.give_at.auto.cells).0

pub join-requires-clause-upper : goal.join-requires-clause-upper
join-requires-clause-upper t c =
    (room_lower c.args.own c.power-upper.result c.args.cells.now c.give_at.new.cells (omega arith) c.power-upper.ensures c.requires.long c.give_at.auto.cells).1

pub give_at-requires-else-unit-half : goal.give_at-requires-else-unit-half
give_at-requires-else-unit-half t c =
    let some : 0 < c.args.own = omega arith in (
      omega arith,
      (
        (omega arith, omega arith),
        (
          long_upper c.args.own c.power-upper.result c.args.cells.now some c.power-upper.ensures c.requires.long,
          ask_out_upper c.args.own c.args.order c.args.unit c.power-upper.result c.power-half.result c.args.cells.now c.requires.tree.0 c.if-own-order.false some c.power-upper.ensures c.power-half.ensures c.if-unit-half.false
              c.requires.tree.1.0 c.requires.tree.1.1,
        ),
      ),
    )

pub join-requires-else-unit-half-clause-lower : goal.join-requires-else-unit-half-clause-lower
join-requires-else-unit-half-clause-lower t c =
    (room_upper c.args.own c.power-upper.result c.args.cells.now c.give_at-else-unit-half.new.cells (omega arith) c.power-upper.ensures c.requires.long c.give_at-else-unit-half.auto.cells).0

pub join-requires-else-unit-half-clause-upper : goal.join-requires-else-unit-half-clause-upper
join-requires-else-unit-half-clause-upper t c =
    (room_upper c.args.own c.power-upper.result c.args.cells.now c.give_at-else-unit-half.new.cells (omega arith) c.power-upper.ensures c.requires.long c.give_at-else-unit-half.auto.cells).1

pub returns-then-unit-half : goal.returns-then-unit-half
returns-then-unit-half t c = λ tree held out.
    given_lower c.args.own c.args.order c.args.unit c.power-upper.result c.power-half.result c.args.cells.now c.give_at.new.cells c.join.new.cells tree c.if-own-order.false (omega arith) (omega arith)
    c.power-upper.ensures c.power-half.ensures c.if-unit-half.true c.requires.long c.give_at.auto.cells held out c.give_at.ensures
    (record { both = c.join.ensures.both; lower = c.join.ensures.lower; upper = c.join.ensures.upper })

pub returns-else-unit-half : goal.returns-else-unit-half
returns-else-unit-half t c = λ tree held out.
    given_upper c.args.own c.args.order c.args.unit c.power-upper.result c.power-half.result c.args.cells.now c.give_at-else-unit-half.new.cells c.join-else-unit-half.new.cells tree c.if-own-order.false (omega arith) (omega arith)
    c.power-upper.ensures c.power-half.ensures c.if-unit-half.false c.requires.long c.give_at-else-unit-half.auto.cells held out c.give_at-else-unit-half.ensures
    (record { both = c.join-else-unit-half.ensures.both; lower = c.join-else-unit-half.ensures.lower; upper = c.join-else-unit-half.ensures.upper })
