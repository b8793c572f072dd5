use Rattle.std.proofs.Common.{[], ◌∷◌, Ok, Err}
use Rattle.std.specs.Prelude.{decimal}
use Rattle.request_text.specs.ReplyText.{reply_text, other_words}
use Rattle.request_text.specs.Printing.{outflow}
use Rattle.request_text.proofs.Putting.{PutSoFar-start, PutSoFar-step, PutSoFar-last, PutSoFar-fault, PutSoFar-rest, of_put}
use Rattle.request_text.proofs.Pieces.{reply_text-pieces}
use Rattle.request_text.proofs.print.print_reply_through.Goals as goal

pub returns-in_err-put-clause-part : goal.returns-in_err-put-clause-part
returns-in_err-put-clause-part g c =
    let start = PutSoFar-rest _ _ _ _ _ (reply_text-pieces c.args.line c.args.r.now c.name_word.result.now c.name_word.ensures)
    (PutSoFar-start (outflow (g.K.Sink.written c.args.sink.now) (g.O.Outlet.pending c.args.outlet.now) (g.K.Sink.faults c.args.sink.now)) (reply_text c.args.line c.args.r.now)) in
    let numbered = PutSoFar-step _ _ _ _ (decimal c.args.line) _ _ start c.in_ok-put_decimal.ensures in
    let puts = PutSoFar-fault _ _ _ _ c.name_word.result.now _ _ _ c.from_residual-in_err-put.ensures.0 numbered (of_put _ _ (Err _) c.name_word.result.now c.in_err-put.ensures) in
    puts.part

pub returns-in_err-put_other_words-clause-part : goal.returns-in_err-put_other_words-clause-part
returns-in_err-put_other_words-clause-part g c =
    let start = PutSoFar-rest _ _ _ _ _ (reply_text-pieces c.args.line c.args.r.now c.name_word.result.now c.name_word.ensures)
    (PutSoFar-start (outflow (g.K.Sink.written c.args.sink.now) (g.O.Outlet.pending c.args.outlet.now) (g.K.Sink.faults c.args.sink.now)) (reply_text c.args.line c.args.r.now)) in
    let numbered = PutSoFar-step _ _ _ _ (decimal c.args.line) _ _ start c.in_ok-put_decimal.ensures in
    let named = PutSoFar-step _ _ _ _ c.name_word.result.now _ _ numbered (of_put _ _ (Ok _) c.name_word.result.now c.in_ok-put.ensures) in
    let puts = PutSoFar-fault _ _ _ _ (other_words c.args.r.now) (10 ∷ []) _ _ c.from_residual-in_err-put_other_words.ensures.0 named c.in_err-put_other_words.ensures in
    puts.part

pub returns : goal.returns
returns g c =
    let start = PutSoFar-rest _ _ _ _ _ (reply_text-pieces c.args.line c.args.r.now c.name_word.result.now c.name_word.ensures)
    (PutSoFar-start (outflow (g.K.Sink.written c.args.sink.now) (g.O.Outlet.pending c.args.outlet.now) (g.K.Sink.faults c.args.sink.now)) (reply_text c.args.line c.args.r.now)) in
    let numbered = PutSoFar-step _ _ _ _ (decimal c.args.line) _ _ start c.in_ok-put_decimal.ensures in
    let named = PutSoFar-step _ _ _ _ c.name_word.result.now _ _ numbered (of_put _ _ (Ok _) c.name_word.result.now c.in_ok-put.ensures) in
    let said = PutSoFar-step _ _ _ _ (other_words c.args.r.now) (10 ∷ []) _ named c.in_ok-put_other_words.ensures in
    let puts = PutSoFar-last _ _ _ _ (10 ∷ []) _ said (of_put _ _ c.put-2.result (10 ∷ []) c.put-2.ensures) in
    record { printed = puts.put; write_fault = puts.write_fault; part = puts.part; emptied = puts.emptied; count = puts.count }
