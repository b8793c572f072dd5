use Rattle.std.proofs.Common.{◌≡◌, ◌++◌, take}
use Rattle.edge_log.specs.Entries.{kept}
use Rattle.edge_log.specs.Slots.{entries_of}
use Rattle.edge_log.proofs.slots.push_kept.Given as goal

-- the copies stand for what is kept of the slots so far, in front of what there was
abbrev pub invariant-loop-slot : goal.invariant-loop-slot
invariant-loop-slot l = entries_of l.copies.items ≡ kept l.horizon (entries_of (take l.slot-index l.slots)) ++ entries_of l.initial.copies.items
