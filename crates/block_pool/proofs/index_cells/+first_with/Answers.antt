use Rattle.std.proofs.Common.{ℕ, ◌≡◌, ◌+◌, ◌-◌, ◌^◌, ◌<◌, length, take, drop, get_or, sym, ap, ◌∙◌, arith}
use Rattle.block_pool.specs.Cells.{has_bit}
use Rattle.block_pool.specs.Index.{leaves_of}
use Rattle.block_pool.proofs.TakeSteps.{long_lower, long_upper}
use Rattle.block_pool.proofs.IndexSteps.{place_whole, place_sum, index_lower, index_upper, ask_bit_lower, ask_bit_upper, leaf_lower, leaf_upper, first_upper}
use Rattle.block_pool.proofs.index_cells.+first_with.Goals as goal

pub first_with-requires : goal.first_with-requires
first_with-requires t c =
    let some : 0 < c.args.depth = omega arith in (
      omega arith,
      (
        omega arith,
        (
          c.requires.order,
          (
            long_lower c.args.depth c.power-upper.result c.args.cells.now some c.power-upper.ensures c.requires.long,
            (
              index_lower c.args.depth c.power-upper.result c.args.cells.now some c.power-upper.ensures c.requires.index,
              ask_bit_lower c.args.depth c.power-upper.result c.args.order c.args.cells.now some c.power-upper.ensures (sym c.if-has_bit.ensures),
            ),
          ),
        ),
      ),
    )

pub first_with-requires-else-has_bit : goal.first_with-requires-else-has_bit
first_with-requires-else-has_bit t c =
    let some : 0 < c.args.depth = omega arith in (
      omega arith,
      (
        omega arith,
        (
          c.requires.order,
          (
            long_upper c.args.depth c.power-upper.result c.args.cells.now some c.power-upper.ensures c.requires.long,
            (
              index_upper c.args.depth c.power-upper.result c.args.cells.now some c.power-upper.ensures c.requires.index,
              ask_bit_upper c.args.depth c.power-upper.result c.args.order c.args.cells.now some c.power-upper.ensures c.requires.index c.requires.some (sym c.if-has_bit.ensures),
            ),
          ),
        ),
      ),
    )

pub returns-then-has_bit-clause-within : goal.returns-then-has_bit-clause-within
returns-then-has_bit-clause-within t c = place_whole c.args.depth c.first_with.result (omega arith) c.first_with.ensures.within

pub returns-then-has_bit-clause-found : goal.returns-then-has_bit-clause-found
returns-then-has_bit-clause-found t c =
    ap (λ (n : ℕ). has_bit n c.args.order) (leaf_lower c.args.depth c.power-upper.result c.first_with.result c.args.cells.now (omega arith) c.power-upper.ensures c.first_with.ensures.within) ∙ c.first_with.ensures.found

pub returns-then-has_bit-clause-first : goal.returns-then-has_bit-clause-first
returns-then-has_bit-clause-first t c = λ k before.
    let inside : k < 2 ^ (c.args.depth - 1) = omega (arith, c.first_with.ensures.within) in
    ap (λ (n : ℕ). has_bit n c.args.order) (leaf_lower c.args.depth c.power-upper.result k c.args.cells.now (omega arith) c.power-upper.ensures inside) ∙ c.first_with.ensures.first k before

pub returns-else-has_bit-clause-within : goal.returns-else-has_bit-clause-within
returns-else-has_bit-clause-within t c = place_sum c.args.depth c.power.result c.first_with-else-has_bit.result (omega arith) c.power.ensures c.first_with-else-has_bit.ensures.within

pub returns-else-has_bit-clause-found : goal.returns-else-has_bit-clause-found
returns-else-has_bit-clause-found t c =
    ap (λ (n : ℕ). has_bit n c.args.order) (leaf_upper c.args.depth c.power-upper.result c.power.result (c.power.result + c.first_with-else-has_bit.result) c.args.cells.now (omega arith) c.power-upper.ensures c.power.ensures (omega arith))
    ∙ (let e : c.power.result + c.first_with-else-has_bit.result - c.power.result ≡ c.first_with-else-has_bit.result = omega arith in
    ap (λ (k : ℕ). has_bit (get_or (leaves_of (c.args.depth - 1) (take (length c.args.cells.now - c.power-upper.result) (drop c.power-upper.result c.args.cells.now))) k 0) c.args.order) e)
    ∙ c.first_with-else-has_bit.ensures.found

pub returns-else-has_bit-clause-first : goal.returns-else-has_bit-clause-first
returns-else-has_bit-clause-first t c = λ k before.
    first_upper c.args.depth c.power-upper.result c.power.result c.args.order c.first_with-else-has_bit.result c.args.cells.now (omega arith) c.power-upper.ensures c.power.ensures c.requires.index (sym c.if-has_bit.ensures)
    c.first_with-else-has_bit.ensures.first k before
