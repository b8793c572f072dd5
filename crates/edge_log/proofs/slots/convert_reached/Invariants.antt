use Rattle.std.proofs.Common.{◌≡◌, ℕ, ◌<◌, ◌≤◌, length, map, get_or}
use Rattle.edge_log.specs.Slots.{converted_slot, IsReached}
use Rattle.edge_log.proofs.ReachLemmas.{IsDoneAt}
use Rattle.edge_log.proofs.slots.convert_reached.Given as goal

-- the noted slots before the index are done, and none is private that was not
abbrev pub invariant-loop-place : goal.invariant-loop-place
invariant-loop-place l = record {
  same : map (converted_slot l.tid l.epoch) l.slots ≡ map (converted_slot l.tid l.epoch) l.fn.slots;
  reached : IsReached l.noted l.from l.slots;
  noted : (k : ℕ) → k < l.place-index → IsDoneAt (converted_slot l.tid l.epoch) l.slots (get_or l.noted k 0);
}

-- all noted slots are done, and those from `from` on before the place
abbrev pub invariant-loop-place-2 : goal.invariant-loop-place-2
invariant-loop-place-2 l = record {
  same : map (converted_slot l.tid l.epoch) l.slots ≡ map (converted_slot l.tid l.epoch) l.fn.slots;
  reached : IsReached l.noted l.from l.slots;
  noted : (k : ℕ) → k < length l.noted → IsDoneAt (converted_slot l.tid l.epoch) l.slots (get_or l.noted k 0);
  behind : (n : ℕ) → l.from ≤ n → n < l.place → IsDoneAt (converted_slot l.tid l.epoch) l.slots n;
}
