use Rattle.std.proofs.Common.{◌≡◌, ℕ, ◌+◌, ◌-◌, ◌<◌, ◌≤◌, subst, sym, inl, inr, arith}
use Rattle.std.specs.Prelude.{◌⊎◌}
use Rattle.std.proofs.lemmas.Bool.{cases_eq}
use Rattle.block_layout.specs.Sizes.{block_len, props_start}
use Rattle.tel_block.proofs.orders.order_for.Goals as goal

one_more : (least n size : ℕ) → block_len n - props_start n < size → ((o : ℕ) → least ≤ o → o < n → block_len o - props_start o < size) → (o : ℕ) → least ≤ o → o < n + 1 → block_len o - props_start o < size
one_more least n size here so_far o above within = by_order (cases_eq o n)
  where
    by_order : (o ≡ n) ⊎ (o ≡ n → ⊥) → block_len o - props_start o < size
    by_order (inl same) = subst (λ (k : ℕ). block_len k - props_start k < size) (sym same) here
    by_order (inr other) = so_far o above (omega (arith, other, within))

pub loop-order-preserved : goal.loop-order-preserved
loop-order-preserved c = one_more c.args.least c.loop-order.order c.args.size (omega (arith, c.room_of.ensures, c.if-size-room_of.false)) c.loop-order.invariant

pub returns-then-size-room_of-clause-smallest : goal.returns-then-size-room_of-clause-smallest
returns-then-size-room_of-clause-smallest c = c.loop-order.invariant

pub returns-clause-smallest : goal.returns-clause-smallest
returns-clause-smallest c = λ o above within. c.loop-order.invariant o above (omega (arith, within, c.loop-order-test.false))
