use Rattle.io_edges.proofs.Appending.{HasWritten-write}
use Rattle.io_edges.proofs.writing.write_all.Goals as goal

pub loop-at-preserved : goal.loop-at-preserved
loop-at-preserved g c =
    HasWritten-write _ _ _ _ _ _ _ _ _ c.loop-at.invariant c.in_ok-at.ensures.written c.in_ok-at.ensures.count
