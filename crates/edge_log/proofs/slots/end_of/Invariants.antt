use Rattle.std.proofs.Common.{◌≡◌, take}
use Rattle.edge_log.specs.Entries.{payload_sum}
use Rattle.edge_log.specs.Slots.{entries_of}
use Rattle.edge_log.proofs.slots.end_of.Given as goal

abbrev pub invariant-loop-slot : goal.invariant-loop-slot
invariant-loop-slot l = l.props ≡ payload_sum (entries_of (take l.slot-index l.slots))
