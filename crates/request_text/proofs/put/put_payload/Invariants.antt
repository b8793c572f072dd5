use Rattle.std.proofs.Common.{length}
use Rattle.hex.specs.Hex.{encode_lower}
use Rattle.request_text.specs.Words.{payload_word}
use Rattle.request_text.specs.Printing.{outflow}
use Rattle.request_text.proofs.Putting.{PutSoFar}
use Rattle.request_text.proofs.put.put_payload.Given as goal

-- the digits up to those of the rest were put
abbrev pub invariant-loop-rest : goal.invariant-loop-rest
invariant-loop-rest g l =
    PutSoFar (outflow (g.K.Sink.written l.fn.sink) (g.O.Outlet.pending l.fn.outlet) (g.K.Sink.faults l.fn.sink))
    (outflow (g.K.Sink.written l.sink) (g.O.Outlet.pending l.outlet) (g.K.Sink.faults l.sink))
    (payload_word l.payload) (encode_lower l.rest)

abbrev pub decreases-loop-rest : goal.decreases-loop-rest
decreases-loop-rest g l = length l.rest
