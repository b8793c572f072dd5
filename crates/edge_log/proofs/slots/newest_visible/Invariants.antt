use Rattle.std.proofs.Common.{◌≡◌, ◌≤◌, length}
use Rattle.stamps.specs.Stamps.{Txn}
use Rattle.edge_log.specs.Places.{newest_place, oldest}
use Rattle.edge_log.specs.Slots.{entries_of}
use Rattle.edge_log.proofs.slots.newest_visible.Given as goal

-- nothing is found from the place on
abbrev pub invariant-loop-place : goal.invariant-loop-place
invariant-loop-place l = record {
  within : l.place ≤ length l.slots;
  passed : newest_place (entries_of l.slots) l.d l.read (Txn l.tid) ≡ newest_place (oldest l.place (entries_of l.slots)) l.d l.read (Txn l.tid);
}

abbrev pub decreases-loop-place : goal.decreases-loop-place
decreases-loop-place l = l.place
