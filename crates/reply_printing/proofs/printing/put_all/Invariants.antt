use Rattle.std.proofs.Common.{◌+◌, ◌-◌, ◌≤◌, drop, length}
use Rattle.request_text.specs.ReplyText.{replies_text, replies_text_from}
use Rattle.request_text.specs.Printing.{outflow}
use Rattle.request_text.proofs.Putting.{PutSoFar}
use Rattle.reply_printing.proofs.printing.put_all.Given as goal

-- the rounds so far were put
abbrev pub invariant-loop-at : goal.invariant-loop-at
invariant-loop-at g l = record {
  put : PutSoFar (outflow (g.K.Sink.written l.fn.sink) l.fn.buffer.pending (g.K.Sink.faults l.fn.sink))
      (outflow (g.K.Sink.written l.sink) l.buffer.pending (g.K.Sink.faults l.sink))
      (replies_text l.replies) (replies_text_from (l.at + 1) (drop l.at l.replies));
  within : l.at ≤ length l.replies;
}

abbrev pub decreases-loop-at : goal.decreases-loop-at
decreases-loop-at g l = length l.replies - l.at
