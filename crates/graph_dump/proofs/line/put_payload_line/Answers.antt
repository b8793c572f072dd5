use Rattle.std.proofs.Common.{◌++◌}
use Rattle.request_text.specs.Words.{payload_word}
use Rattle.request_text.specs.Scripts.{word}
use Rattle.request_text.proofs.Putting.{PutSoFar-start, PutSoFar-step, PutSoFar-last, PutSoFar-fault, of_put}
use Rattle.graph_dump.specs.Lines.{named, payload_line, newline}
use Rattle.graph_dump.proofs.line.put_payload_line.Goals as goal

pub returns-in_err-put_payload_word : goal.returns-in_err-put_payload_word
returns-in_err-put_payload_word g c =
    PutSoFar-fault _ _ _ (payload_line c.args.name.now c.args.numbers.now c.args.payload.now) (word (payload_word c.args.payload.now)) newline _ _ c.from_residual-in_err-put_payload_word.ensures.0
    (PutSoFar-step _ _ _ _ (named c.args.name.now c.args.numbers.now) (word (payload_word c.args.payload.now) ++ newline) _ (PutSoFar-start _ _) c.in_ok-put_named.ensures)
    c.in_err-put_payload_word.ensures

pub returns : goal.returns
returns g c =
    PutSoFar-last _ _ _ (payload_line c.args.name.now c.args.numbers.now c.args.payload.now) newline _
    (PutSoFar-step _ _ _ _ (word (payload_word c.args.payload.now)) newline _
    (PutSoFar-step _ _ _ _ (named c.args.name.now c.args.numbers.now) (word (payload_word c.args.payload.now) ++ newline) _ (PutSoFar-start _ _) c.in_ok-put_named.ensures)
    c.in_ok-put_payload_word.ensures) (of_put _ _ c.put.result newline c.put.ensures)
