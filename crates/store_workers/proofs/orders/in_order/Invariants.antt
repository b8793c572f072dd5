use Rattle.std.proofs.Common.{◌≤◌, length, vec_capacity}
use Rattle.store_workers.proofs.Ordering.{Dealt}
use Rattle.store_workers.proofs.orders.in_order.Given as goal

-- the replies to the lines behind so many are in order
abbrev pub invariant-loop-left : goal.invariant-loop-left
invariant-loop-left l = record {
  dealt : Dealt l.count l.fn.script.value l.fn.own.items l.own.items l.left l.replies.items;
  low : l.left ≤ length l.fn.script.value;
  room : length l.fn.script.value ≤ vec_capacity l.replies;
}

abbrev pub decreases-loop-left : goal.decreases-loop-left
decreases-loop-left l = l.left
