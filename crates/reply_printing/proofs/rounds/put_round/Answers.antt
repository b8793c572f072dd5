use Rattle.std.proofs.lemmas.List.{drop-drop}
use Rattle.std.proofs.Common.{◌≡◌, ◌+◌, ◌*◌, ◌++◌, ◌∙◌, drop, ap, subst, sym, arith, ℕ, List, ◌<◌, length, slice_index_or}
use Rattle.std.specs.Prelude.{IfSome}
use Rattle.request_text.specs.declared.reply.Reply.{Reply}
use Rattle.request_text.specs.ReplyText.{replies_text_from}
use Rattle.request_text.proofs.Putting.{PutSoFar-start, PutSoFar-step, PutSoFar-fault, PutSoFar-rest}
use Rattle.reply_printing.specs.Parts.{part_at}
use Rattle.reply_printing.proofs.Texts.{text-split}
use Rattle.reply_printing.proofs.rounds.put_round.Goals as goal

pub loop-i-init : goal.loop-i-init
loop-i-init g c =
    let same : c.args.first ≡ c.args.first + 0 = omega arith in
    PutSoFar-rest _ _ _ _ _ (ap (λ (n : ℕ). replies_text_from n c.args.replies.now) same) (PutSoFar-start _ _)

-- what is left behind the parts so far is the next part and the others
next-part : (line i : ℕ) (round : List Reply) → replies_text_from (line + i * 32768) (drop (i * 32768) round) ≡ replies_text_from (line + i * 32768) (part_at (i * 32768) round) ++ replies_text_from (line + (i + 1) * 32768) (drop ((i + 1) * 32768) round)
next-part line i round =
    let more : line + i * 32768 + 32768 ≡ line + (i + 1) * 32768 = omega arith in
    let behind : i * 32768 + 32768 ≡ (i + 1) * 32768 = omega arith in
    text-split (line + i * 32768) 32768 (drop (i * 32768) round)
    ∙ ap (λ (n : ℕ). replies_text_from (line + i * 32768) (part_at (i * 32768) round) ++ replies_text_from n (drop 32768 (drop (i * 32768) round))) more
    ∙ ap (λ (rs : List Reply). replies_text_from (line + i * 32768) (part_at (i * 32768) round) ++ replies_text_from (line + (i + 1) * 32768) rs) (drop-drop 32768 (i * 32768) round ∙ ap (λ (n : ℕ). drop n round) behind)

pub put_part-requires-clause-text : goal.put_part-requires-clause-text
put_part-requires-clause-text g c =
    let low : c.loop-i.i < length c.in-Ok.texts.items = subst (λ ts. c.loop-i.i < length ts) c.deref-text-items.ensures.value c.loop-i-test.true in
    let gave = (c.in-Ok.ensures.each c.loop-i.i c.text-item.result low).1 in
    let it = subst (λ t. IfSome t (λ text. text.written ≡ replies_text_from (c.args.first + c.loop-i.i * 32768) gave.argument.now))
    (sym (c.text-item.is ∙ ap (λ ts. slice_index_or ts c.loop-i.i c.text-item.result) c.deref-text-items.ensures.value)) gave.call in
    subst (λ (part : List Reply). IfSome c.text-item.result (λ text. text.written ≡ replies_text_from (c.args.first + c.loop-i.i * 32768) part)) gave.argument_is.value it

pub returns-in_err-put_part : goal.returns-in_err-put_part
returns-in_err-put_part g c =
    let e = c.put_part.ensures in
    PutSoFar-fault _ _ _ _ (replies_text_from (c.args.first + c.loop-i.i * 32768) (part_at (c.loop-i.i * 32768) c.args.replies.now)) _ _ _ c.from_residual.ensures.0
    (PutSoFar-rest _ _ _ _ _ (next-part c.args.first c.loop-i.i c.args.replies.now) c.loop-i.invariant)
    c.in_err-put_part.ensures

pub loop-i-preserved : goal.loop-i-preserved
loop-i-preserved g c =
    PutSoFar-step _ _ _ _ (replies_text_from (c.args.first + c.loop-i.i * 32768) (part_at (c.loop-i.i * 32768) c.args.replies.now)) _ _
    (PutSoFar-rest _ _ _ _ _ (next-part c.args.first c.loop-i.i c.args.replies.now) c.loop-i.invariant)
    (c.in_ok-put_part.ensures)
