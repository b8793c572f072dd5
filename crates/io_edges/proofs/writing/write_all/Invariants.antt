use Rattle.std.proofs.Common.{length, ◌-◌}
use Rattle.io_edges.proofs.Appending.{HasWritten}
use Rattle.io_edges.proofs.writing.write_all.Given as goal

abbrev pub invariant-loop-at : goal.invariant-loop-at
invariant-loop-at g l =
    HasWritten (g.K.Sink.written l.initial.sink) (g.K.Sink.written l.sink)
    (g.K.Sink.faults l.initial.sink) (g.K.Sink.faults l.sink) l.bytes l.at

abbrev pub decreases-loop-at : goal.decreases-loop-at
decreases-loop-at g l = length l.initial.bytes - l.at
