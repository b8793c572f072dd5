use Rattle.std.proofs.Common.{◌≡◌, ◌≤◌, ◌++◌, length, vec_capacity, ◌+◌}
use Rattle.std.specs.Vec.Iter.{into_iter_items, into_iter_len}
use Rattle.turn_board.specs.Spread.{slot_of, spread}
use Rattle.turn_board.proofs.slots.spread_out.Given as goal

abbrev pub invariant-loop-value : goal.invariant-loop-value
invariant-loop-value g l = record {
  spread_so_far : l.slots.items ++ spread (into_iter_items l.rest) ≡ spread l.fn.values.items;
  room : length l.slots.items + slot_of (length (into_iter_items l.rest)) ≤ vec_capacity l.slots;
}

abbrev pub decreases-loop-value : goal.decreases-loop-value
decreases-loop-value g l = into_iter_len l.rest
