use Rattle.std.proofs.Common.{◌≡◌, ◌≤◌, ◌++◌, length, vec_capacity, ◌+◌}
use Rattle.std.specs.Vec.Iter.{into_iter_items, into_iter_len}
use Rattle.turn_board.specs.Spread.{spread, at_turns}
use Rattle.turn_board.proofs.slots.gathered.Given as goal

abbrev pub invariant-loop-value : goal.invariant-loop-value
invariant-loop-value g l = record {
  gathered_so_far : l.values.items ++ at_turns (into_iter_items l.rest) ≡ at_turns l.fn.slots.items;
  spread_still : into_iter_items l.rest ≡ spread (at_turns (into_iter_items l.rest));
  room : length l.values.items + length (at_turns (into_iter_items l.rest)) ≤ vec_capacity l.values;
}

abbrev pub decreases-loop-value : goal.decreases-loop-value
decreases-loop-value g l = into_iter_len l.rest
