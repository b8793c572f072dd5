use Rattle.std.proofs.Common.{◌≡◌}
use Rattle.stamps.specs.Stamps.{Txn}
use Rattle.edge_log.specs.Entries.{shown}
use Rattle.edge_log.specs.Places.{oldest, IsPlaceIn}
use Rattle.log_reads.proofs.reads.shows_any.Given as goal

-- no edge was seen above the place
abbrev pub invariant-loop-place : goal.invariant-loop-place
invariant-loop-place g l =
    let entries = (g.L.EdgeLog.content l.log l.room).entries in
    record {
      bytes : l.part.bytes ≡ l.fn.part.bytes;
      place : IsPlaceIn entries l.place;
      rest : shown entries l.read (Txn l.tid) ≡ shown (oldest l.place.below entries) l.read (Txn l.tid);
    }

abbrev pub decreases-loop-place : goal.decreases-loop-place
decreases-loop-place g l = l.place.below
