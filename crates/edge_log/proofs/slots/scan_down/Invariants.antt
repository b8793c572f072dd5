use Rattle.std.proofs.Common.{◌≡◌, ◌+◌, ◌≤◌, ◌++◌, length}
use Rattle.graph_model.specs.Payload.{payload_most}
use Rattle.stamps.specs.Stamps.{Txn}
use Rattle.edge_log.specs.Entries.{shown, payload_sum}
use Rattle.edge_log.specs.Places.{oldest}
use Rattle.edge_log.specs.Parts.{part_most, payload_bytes}
use Rattle.edge_log.specs.Slots.{entries_of}
use Rattle.edge_log.proofs.slots.scan_down.Given as goal

-- the part's edges, followed by those below, are those below the place, and no more than were looked at
abbrev pub invariant-loop-below : goal.invariant-loop-below
invariant-loop-below l =
    let entries = entries_of l.slots in
    record {
      pairs : shown (oldest l.place.below entries) l.read (Txn l.tid) ≡ l.out.pairs ++ shown (oldest l.below entries) l.read (Txn l.tid);
      few : length l.out.pairs + l.below ≤ l.place.below;
      bytes : l.out.bytes ≡ l.fn.out.bytes;
      held : l.out.held ≡ payload_bytes l.out.pairs;
      wide : payload_most ≤ l.out.bytes;
      looks : l.place.below ≤ l.below + part_most;
      props : l.props ≡ payload_sum (oldest l.below entries);
    }

abbrev pub decreases-loop-below : goal.decreases-loop-below
decreases-loop-below l = l.below
