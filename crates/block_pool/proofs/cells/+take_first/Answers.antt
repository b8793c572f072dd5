use Rattle.std.proofs.Common.{ℕ, ◌≡◌, ◌+◌, ◌-◌, ◌^◌, ◌<◌, List, sym, subst, arith}
use Rattle.block_pool.specs.Cells.{Holds, taken}
use Rattle.block_pool.proofs.CellSteps.{pow-more, room, room_upper}
use Rattle.block_pool.proofs.TakeSteps.{taken_here, unit_here, ask_lower, ask_upper, long_lower, long_upper, taken_lower, unit_lower, taken_upper, unit_upper}
use Rattle.block_pool.proofs.cells.+take_first.Goals as goal

pub returns-then-own-from-clause-tree : goal.returns-then-own-from-clause-tree
returns-then-own-from-clause-tree t c = λ tree held has. taken_here c.args.own c.args.from c.args.order c.carve.new.cells tree c.if-own-from.true has c.carve.ensures

pub returns-then-own-from-clause-unit : goal.returns-then-own-from-clause-unit
returns-then-own-from-clause-unit t c = λ tree held has. unit_here c.args.own c.args.from tree c.if-own-from.true has

pub bounds-cells-1 : goal.bounds-cells-1
bounds-cells-1 t c = let has = room c.args.own c.power-upper.result c.args.cells.now (omega arith) c.power-upper.ensures c.requires.long in omega (arith, has.0, has.1)

pub take_first-unit-requires : goal.take_first-unit-requires
take_first-unit-requires t c =
    let some : 0 < c.args.own = omega arith in (
      omega arith,
      (
        (omega arith, omega arith, omega arith),
        (
          long_lower c.args.own c.power-upper.result c.args.cells.now some c.power-upper.ensures c.requires.long,
          ask_lower c.args.own c.args.from c.power-upper.result c.args.cells.now c.requires.tree.0 c.if-own-from.false some (omega arith) c.power-upper.ensures (sym c.if-has_bit.ensures) c.requires.tree.1.0 c.requires.tree.1.1,
        ),
      ),
    )

pub take_first-unit-requires-else-has_bit : goal.take_first-unit-requires-else-has_bit
take_first-unit-requires-else-has_bit t c =
    let some : 0 < c.args.own = omega arith in (
      omega arith,
      (
        (omega arith, omega arith, omega arith),
        (
          long_upper c.args.own c.power-upper.result c.args.cells.now some c.power-upper.ensures c.requires.long,
          ask_upper c.args.own c.args.from c.power-upper.result c.args.cells.now c.requires.tree.0 c.if-own-from.false some (omega arith) c.power-upper.ensures (sym c.if-has_bit.ensures) c.requires.tree.1.0 c.requires.tree.1.1,
        ),
      ),
    )

pub mend-requires-else-has_bit-clause-lower : goal.mend-requires-else-has_bit-clause-lower
mend-requires-else-has_bit-clause-lower t c =
    (room_upper c.args.own c.power-upper.result c.args.cells.now c.take_first-unit-else-has_bit.new.cells (omega arith) c.power-upper.ensures c.requires.long c.take_first-unit-else-has_bit.auto.cells).0

pub mend-requires-else-has_bit-clause-upper : goal.mend-requires-else-has_bit-clause-upper
mend-requires-else-has_bit-clause-upper t c =
    (room_upper c.args.own c.power-upper.result c.args.cells.now c.take_first-unit-else-has_bit.new.cells (omega arith) c.power-upper.ensures c.requires.long c.take_first-unit-else-has_bit.auto.cells).1

pub returns-then-has_bit-clause-tree : goal.returns-then-has_bit-clause-tree
returns-then-has_bit-clause-tree t c = λ tree held has.
    subst (λ (cells : List ℕ). Holds c.args.own cells (taken c.args.own c.args.from c.args.order tree)) (sym c.mend.ensures)
    (taken_lower c.args.own c.args.from c.args.order c.power-upper.result c.args.cells.now c.take_first-unit.new.cells tree c.if-own-from.false (omega arith) (omega arith) c.power-upper.ensures c.requires.long
    c.take_first-unit.auto.cells (sym c.if-has_bit.ensures) held has c.take_first-unit.ensures.tree)

pub returns-then-has_bit-clause-unit : goal.returns-then-has_bit-clause-unit
returns-then-has_bit-clause-unit t c = λ tree held has.
    unit_lower c.args.own c.args.from c.power-upper.result c.take_first-unit.result c.args.cells.now tree c.if-own-from.false (omega arith) (omega arith) c.power-upper.ensures
    (sym c.if-has_bit.ensures) held has c.take_first-unit.ensures.unit

pub returns-then-has_bit-clause-within : goal.returns-then-has_bit-clause-within
returns-then-has_bit-clause-within t c =
    let e : c.args.own - 1 + 1 ≡ c.args.own = omega arith in
    let twice : 2 ^ c.args.own ≡ 2 ^ (c.args.own - 1) + 2 ^ (c.args.own - 1) = subst (λ (n : ℕ). 2 ^ n ≡ 2 ^ (c.args.own - 1) + 2 ^ (c.args.own - 1)) e (pow-more (c.args.own - 1)) in
    omega (arith, twice, c.take_first-unit.ensures.within)

pub returns-else-has_bit-clause-tree : goal.returns-else-has_bit-clause-tree
returns-else-has_bit-clause-tree t c = λ tree held has.
    subst (λ (cells : List ℕ). Holds c.args.own cells (taken c.args.own c.args.from c.args.order tree)) (sym c.mend-else-has_bit.ensures)
    (taken_upper c.args.own c.args.from c.args.order c.power-upper.result c.args.cells.now c.take_first-unit-else-has_bit.new.cells tree c.if-own-from.false (omega arith) (omega arith) c.power-upper.ensures c.requires.long
    c.take_first-unit-else-has_bit.auto.cells (sym c.if-has_bit.ensures) held has c.take_first-unit-else-has_bit.ensures.tree)

pub returns-else-has_bit-clause-unit : goal.returns-else-has_bit-clause-unit
returns-else-has_bit-clause-unit t c = λ tree held has.
    unit_upper c.args.own c.args.from c.power-upper.result c.take_first-unit-else-has_bit.result _ c.args.cells.now tree c.if-own-from.false (omega arith) (omega arith) c.power-upper.ensures c.power.ensures
    (sym c.if-has_bit.ensures) held has c.take_first-unit-else-has_bit.ensures.unit

pub returns-else-has_bit-clause-within : goal.returns-else-has_bit-clause-within
returns-else-has_bit-clause-within t c =
    let e : c.args.own - 1 + 1 ≡ c.args.own = omega arith in
    let twice : 2 ^ c.args.own ≡ 2 ^ (c.args.own - 1) + 2 ^ (c.args.own - 1) = subst (λ (n : ℕ). 2 ^ n ≡ 2 ^ (c.args.own - 1) + 2 ^ (c.args.own - 1)) e (pow-more (c.args.own - 1)) in
    omega (arith, twice, c.power.ensures, c.take_first-unit-else-has_bit.ensures.within)
