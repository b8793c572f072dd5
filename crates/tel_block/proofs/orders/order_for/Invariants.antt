use Rattle.std.proofs.Common.{ℕ, ◌-◌, ◌<◌, ◌≤◌}
use Rattle.block_layout.specs.Sizes.{block_len, props_start}
use Rattle.tel_block.proofs.orders.order_for.Given as goal

abbrev pub invariant-loop-order : goal.invariant-loop-order
invariant-loop-order l = (o : ℕ) → l.least ≤ o → o < l.order → block_len o - props_start o < l.size
