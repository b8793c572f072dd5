use Rattle.std.proofs.Common.{◌≡◌, ◌≤◌, ◌-◌, ◌<◌, ℕ, false, get_or, take, vec_capacity}
use Rattle.std.specs.Mem.Slots.{slots_items, slots_filled, slots_len}
use Rattle.std.specs.Mem.Slots.Ownership.{Filled}
use Rattle.turn_board.specs.Spread.{slot_of, turns_in, at_turns}
use Rattle.turn_board.proofs.slots.all_out.Given as goal

abbrev pub invariant-loop-slot : goal.invariant-loop-slot
invariant-loop-slot g l =
    Filled (slots_filled l.closed.slots) l.slot (slots_len l.closed.slots) × ((k : ℕ) → k < l.slot → get_or (slots_filled l.closed.slots) k false ≡ false)
    × (slots_items l.closed.slots ≡ slots_items l.initial.closed.slots) × (slots_len l.closed.slots ≡ slots_len l.initial.closed.slots) × (l.closed.words ≡ l.initial.closed.words)
    × (l.slot ≤ slots_len l.closed.slots) × (l.slot ≡ slot_of (turns_in l.slot))
    × (l.out.items ≡ take (turns_in l.slot) (at_turns (slots_items l.closed.slots))) × (turns_in (slots_len l.closed.slots) ≤ vec_capacity l.out)

abbrev pub decreases-loop-slot : goal.decreases-loop-slot
decreases-loop-slot g l = slots_len l.closed.slots - l.slot
