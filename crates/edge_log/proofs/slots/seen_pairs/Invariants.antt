use Rattle.std.proofs.Common.{◌≡◌, ◌≤◌, ◌++◌, length}
use Rattle.stamps.specs.Stamps.{Txn}
use Rattle.edge_log.specs.Entries.{shown}
use Rattle.edge_log.specs.Places.{oldest}
use Rattle.edge_log.specs.Slots.{entries_of}
use Rattle.edge_log.proofs.slots.seen_pairs.Given as goal

-- the edges so far, followed by those below the place, are all
abbrev pub invariant-loop-place : goal.invariant-loop-place
invariant-loop-place l = record {
  within : l.place ≤ length l.slots;
  pairs : shown (entries_of l.slots) l.read (Txn l.tid) ≡ l.pairs ++ shown (oldest l.place (entries_of l.slots)) l.read (Txn l.tid);
}

abbrev pub decreases-loop-place : goal.decreases-loop-place
decreases-loop-place l = l.place
