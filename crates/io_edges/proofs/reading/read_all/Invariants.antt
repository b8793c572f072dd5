use Rattle.std.proofs.Common.{◌+◌, ◌-◌, ◌≤◌}
use Rattle.io_edges.proofs.Taking.{HasRead}
use Rattle.io_edges.proofs.reading.read_all.Given as goal

abbrev pub invariant-loop-buffer : goal.invariant-loop-buffer
invariant-loop-buffer g l =
    (l.at ≤ l.most)
    × HasRead (g.S.Source.left l.initial.source) (g.S.Source.left l.source)
    (g.S.Source.faults l.initial.source) (g.S.Source.faults l.source) l.buffer.items l.at l.most

abbrev pub decreases-loop-buffer : goal.decreases-loop-buffer
decreases-loop-buffer g l = l.most + 1 - l.at
