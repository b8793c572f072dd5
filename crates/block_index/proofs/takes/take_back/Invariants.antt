use Rattle.std.proofs.Common.{◌≡◌, ℕ, ◌≤◌, ◌-◌, List, length}
use Rattle.edge_log.specs.Entries.{Entry}
use Rattle.edge_log.specs.Places.{oldest}
use Rattle.place_index.specs.Chains.{HasSlots, room_of}
use Rattle.block_layout.specs.Blocks.{HoldsEntries}
use Rattle.block_index.specs.Noted.{IsIndexed}
use Rattle.block_index.proofs.takes.take_back.Given as goal

abbrev pub invariant-loop-place : goal.invariant-loop-place
invariant-loop-place l = record {
  slots : HasSlots l.index;
  within : (l.from ≤ l.place) × (l.place ≤ l.count);
  room : room_of l.index ≡ room_of l.fn.index;
  indexed : (start : ℕ) (xs : List Entry) → HoldsEntries start xs l.block → length xs ≡ l.count → IsIndexed l.fn.index xs → IsIndexed l.index (oldest l.place xs);
}

abbrev pub decreases-loop-place : goal.decreases-loop-place
decreases-loop-place l = l.place - l.from
