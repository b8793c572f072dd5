use Rattle.std.proofs.Common.{drop, flat_map}
use Rattle.request_text.specs.Scripts.{number_word}
use Rattle.request_text.specs.Printing.{outflow}
use Rattle.request_text.proofs.Putting.{PutSoFar}
use Rattle.request_text.proofs.put.put_numbers.Given as goal

-- the numbers so far were put
abbrev pub invariant-loop-n : goal.invariant-loop-n
invariant-loop-n g l =
    PutSoFar (outflow (g.K.Sink.written l.fn.sink) (g.O.Outlet.pending l.fn.outlet) (g.K.Sink.faults l.fn.sink))
    (outflow (g.K.Sink.written l.sink) (g.O.Outlet.pending l.outlet) (g.K.Sink.faults l.sink))
    (flat_map number_word l.numbers) (flat_map number_word (drop l.n-index l.numbers))
