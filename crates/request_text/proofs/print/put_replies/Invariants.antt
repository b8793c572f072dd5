use Rattle.std.proofs.Common.{◌+◌, drop}
use Rattle.request_text.specs.ReplyText.{replies_text_from}
use Rattle.request_text.specs.Printing.{outflow}
use Rattle.request_text.proofs.Putting.{PutSoFar}
use Rattle.request_text.proofs.print.put_replies.Given as goal

-- the replies so far were put
abbrev pub invariant-loop-i : goal.invariant-loop-i
invariant-loop-i g l =
    PutSoFar (outflow (g.K.Sink.written l.fn.sink) (g.O.Outlet.pending l.fn.outlet) (g.K.Sink.faults l.fn.sink))
    (outflow (g.K.Sink.written l.sink) (g.O.Outlet.pending l.outlet) (g.K.Sink.faults l.sink))
    (replies_text_from l.first l.replies) (replies_text_from (l.first + l.i) (drop l.i l.replies))
