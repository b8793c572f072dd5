use Rattle.std.proofs.Common.{drop, flat_map, length, ◌++◌, ◌-◌}
use Rattle.request_text.specs.Scripts.{number_word}
use Rattle.request_text.specs.ReplyText.{pair_word}
use Rattle.request_text.specs.Printing.{outflow}
use Rattle.request_text.proofs.Putting.{PutSoFar}
use Rattle.request_text.proofs.put.put_pairs.Given as goal

-- the number of edges and the edges so far were put
abbrev pub invariant-loop-pair : goal.invariant-loop-pair
invariant-loop-pair g l =
    PutSoFar (outflow (g.K.Sink.written l.fn.sink) (g.O.Outlet.pending l.fn.outlet) (g.K.Sink.faults l.fn.sink))
    (outflow (g.K.Sink.written l.sink) (g.O.Outlet.pending l.outlet) (g.K.Sink.faults l.sink))
    (number_word (length l.pairs) ++ flat_map pair_word l.pairs) (flat_map pair_word (drop l.at l.pairs))

abbrev pub decreases-loop-pair : goal.decreases-loop-pair
decreases-loop-pair g l = length l.pairs - l.at
