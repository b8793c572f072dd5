use Rattle.std.proofs.Common.{◌≡◌, ◌++◌}
use Rattle.stamps.specs.Stamps.{Txn}
use Rattle.edge_log.specs.Entries.{shown}
use Rattle.edge_log.specs.Places.{oldest, IsPlaceIn}
use Rattle.log_reads.proofs.reads.pairs.Given as goal

-- the edges so far, followed by those below the place, are all
abbrev pub invariant-loop-place : goal.invariant-loop-place
invariant-loop-place g l =
    let entries = (g.L.EdgeLog.content l.log l.room).entries in
    record {
      bytes : l.part.bytes ≡ l.fn.part.bytes;
      place : IsPlaceIn entries l.place;
      pairs : shown entries l.read (Txn l.tid) ≡ l.pairs ++ shown (oldest l.place.below entries) l.read (Txn l.tid);
    }

abbrev pub decreases-loop-place : goal.decreases-loop-place
decreases-loop-place g l = l.place.below
