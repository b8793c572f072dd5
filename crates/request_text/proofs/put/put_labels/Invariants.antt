use Rattle.std.proofs.Common.{drop, flat_map, length, ◌++◌}
use Rattle.request_text.specs.Scripts.{number_word}
use Rattle.request_text.specs.Printing.{outflow}
use Rattle.request_text.proofs.Putting.{PutSoFar}
use Rattle.request_text.proofs.put.put_labels.Given as goal

-- the number of labels and the labels so far were put
abbrev pub invariant-loop-l : goal.invariant-loop-l
invariant-loop-l g l =
    PutSoFar (outflow (g.K.Sink.written l.fn.sink) (g.O.Outlet.pending l.fn.outlet) (g.K.Sink.faults l.fn.sink))
    (outflow (g.K.Sink.written l.sink) (g.O.Outlet.pending l.outlet) (g.K.Sink.faults l.sink))
    (number_word (length l.labels) ++ flat_map number_word l.labels) (flat_map number_word (drop l.l-index l.l-items))
