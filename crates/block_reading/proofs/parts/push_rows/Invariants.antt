use Rattle.std.proofs.Common.{◌≡◌, ◌+◌, ◌≤◌, ◌++◌, length, drop}
use Rattle.graph_model.specs.Payload.{payload_most}
use Rattle.stamps.specs.Stamps.{Txn}
use Rattle.edge_log.specs.Entries.{shown, payload_sum}
use Rattle.edge_log.specs.Parts.{payload_bytes}
use Rattle.block_reading.specs.Places.{entries_below}
use Rattle.block_reading.proofs.parts.push_rows.Given as goal

-- the part's edges, followed by those of the entries that are left, are those below the place
abbrev pub invariant-loop-row : goal.invariant-loop-row
invariant-loop-row l =
    let entries = entries_below l.start l.fn.place l.block in
    record {
      pairs : shown entries l.read (Txn l.tid) ≡ l.out.pairs ++ shown (drop l.row-index entries) l.read (Txn l.tid);
      few : length l.out.pairs ≤ l.row-index;
      bytes : l.out.bytes ≡ l.fn.out.bytes;
      held : l.out.held ≡ payload_bytes l.out.pairs;
      wide : payload_most ≤ l.out.bytes;
      below : l.below + l.row-index ≡ l.fn.place.below;
      props : l.props ≡ payload_sum (drop l.row-index entries);
    }
