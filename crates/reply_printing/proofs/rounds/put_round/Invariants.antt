use Rattle.std.proofs.Common.{◌+◌, ◌*◌, drop}
use Rattle.request_text.specs.ReplyText.{replies_text_from}
use Rattle.request_text.specs.Printing.{outflow}
use Rattle.request_text.proofs.Putting.{PutSoFar}
use Rattle.reply_printing.proofs.rounds.put_round.Given as goal

-- the parts so far were put
abbrev pub invariant-loop-i : goal.invariant-loop-i
invariant-loop-i g l =
    PutSoFar (outflow (g.K.Sink.written l.fn.sink) l.fn.buffer.pending (g.K.Sink.faults l.fn.sink))
    (outflow (g.K.Sink.written l.sink) l.buffer.pending (g.K.Sink.faults l.sink))
    (replies_text_from l.first l.replies) (replies_text_from (l.first + l.i * 32768) (drop (l.i * 32768) l.replies))
