use Rattle.std.proofs.Common.{◌≡◌, ◌+◌, ◌++◌, ◌∙◌, drop, ap, arith, ℕ}
use Rattle.request_text.specs.ReplyText.{reply_text, replies_text_from}
use Rattle.request_text.proofs.Putting.{PutSoFar-step, PutSoFar-fault, PutSoFar-rest}
use Rattle.request_text.proofs.Pieces.{replies_text_from-drop_at}
use Rattle.request_text.proofs.print.put_replies.Goals as goal

pub returns-in_err-print_reply_through : goal.returns-in_err-print_reply_through
returns-in_err-print_reply_through g c =
    let e = c.in_err-print_reply_through.ensures in
    PutSoFar-fault _ _ _ _ (reply_text (c.args.first + c.loop-i.i) c.index-replies-i.result) _ _ _ c.from_residual.ensures.0
    (PutSoFar-rest _ _ _ _ _ (replies_text_from-drop_at (c.args.first + c.loop-i.i) c.args.replies.now c.loop-i.i c.index-replies-i.result c.loop-i-test.true c.index-replies-i.is) c.loop-i.invariant)
    (record { put = tt; write_fault = e.write_fault; part = e.part; emptied = e.emptied; count = e.count })

pub loop-i-preserved : goal.loop-i-preserved
loop-i-preserved g c =
    let e = c.in_ok-print_reply_through.ensures in
    let at = c.args.first + c.loop-i.i in
    let same : at + 1 ≡ c.args.first + (c.loop-i.i + 1) = omega arith in
    PutSoFar-step _ _ _ _ (reply_text at c.index-replies-i.result) _ _
    (PutSoFar-rest _ _ _ _ _
    (replies_text_from-drop_at at c.args.replies.now c.loop-i.i c.index-replies-i.result c.loop-i-test.true c.index-replies-i.is
    ∙ ap (λ (n : ℕ). reply_text at c.index-replies-i.result ++ replies_text_from n (drop (c.loop-i.i + 1) c.args.replies.now)) same)
    c.loop-i.invariant)
    (record { put = e.printed; write_fault = tt; part = e.part; emptied = tt; count = e.count })
