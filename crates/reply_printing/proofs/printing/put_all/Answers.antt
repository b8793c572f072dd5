use Rattle.std.proofs.Common.{◌≡◌, ◌+◌, ◌++◌, ◌∙◌, drop, take, length, ap, sym, arith, ℕ, List, ◌*◌}
use Rattle.std.proofs.lemmas.List.{drop-drop}
use Rattle.request_text.specs.declared.reply.Reply.{Reply}
use Rattle.request_text.specs.ReplyText.{replies_text_from}
use Rattle.request_text.proofs.Putting.{PutSoFar-start, PutSoFar-step, PutSoFar-fault, PutSoFar-rest}
use Rattle.reply_printing.proofs.Texts.{text-cut}
use Rattle.reply_printing.proofs.printing.put_all.Goals as goal

-- what is left behind the rounds so far is the next round and the others
next-round : (at most : ℕ) (replies : List Reply) → replies_text_from (at + 1) (drop at replies) ≡ replies_text_from (at + 1) (take most (drop at replies)) ++ replies_text_from (at + length (take most (drop at replies)) + 1) (drop (at + length (take most (drop at replies))) replies)
next-round at most replies =
    let round = take most (drop at replies) in
    let more : at + 1 + length round ≡ at + length round + 1 = omega arith in
    text-cut (at + 1) most (drop at replies)
    ∙ ap (λ (n : ℕ). replies_text_from (at + 1) round ++ replies_text_from n (drop (length round) (drop at replies))) more
    ∙ ap (λ (rs : List Reply). replies_text_from (at + 1) round ++ replies_text_from (at + length round + 1) rs) (drop-drop (length round) at replies)

-- the same of a round that is known to be that
this-round : (at most : ℕ) (replies round : List Reply) → round ≡ take (most * 32768) (drop at replies) → replies_text_from (at + 1) (drop at replies) ≡ replies_text_from (at + 1) round ++ replies_text_from (at + length round + 1) (drop (at + length round) replies)
this-round at most replies round is =
    next-round at (most * 32768) replies
    ∙ ap (λ (rs : List Reply). replies_text_from (at + 1) rs ++ replies_text_from (at + length rs + 1) (drop (at + length rs) replies)) (sym is)

pub loop-at-init : goal.loop-at-init
loop-at-init g c = record { put = PutSoFar-start _ _; within = omega arith }

pub returns-in_err-put_round : goal.returns-in_err-put_round
returns-in_err-put_round g c =
    PutSoFar-fault _ _ _ _ (replies_text_from (c.loop-at.at + 1) c.some_from-round.result.now) _ _ _ c.from_residual.ensures.0
    (PutSoFar-rest _ _ _ _ _ (this-round c.loop-at.at c.min.result c.args.replies.now c.some_from-round.result.now c.some_from-round.ensures.part) c.loop-at.invariant.put)
    c.in_err-put_round.ensures

pub loop-at-preserved : goal.loop-at-preserved
loop-at-preserved g c =
    let within = c.some_from-round.ensures.within in
    record {
      put = PutSoFar-step _ _ _ _ (replies_text_from (c.loop-at.at + 1) c.some_from-round.result.now) _ _
          (PutSoFar-rest _ _ _ _ _ (this-round c.loop-at.at c.min.result c.args.replies.now c.some_from-round.result.now c.some_from-round.ensures.part) c.loop-at.invariant.put)
          c.in_ok-put_round.ensures;
      within = within;
    }
