-- Texts of replies that are cut.
use Rattle.std.proofs.Common.{◌≡◌, ◌+◌, ◌++◌, ◌∙◌, ℕ, zero, suc, List, [], ◌∷◌, length, take, drop, refl, ap, sym, arith, append_assoc}
use Rattle.std.proofs.lemmas.List.{length-take, take_min}
use Rattle.request_text.specs.declared.reply.Reply.{Reply}
use Rattle.request_text.specs.ReplyText.{reply_text, replies_text_from}

-- the text of the first replies, and then that of the others
pub text-split : (line n : ℕ) (replies : List Reply) → replies_text_from line replies ≡ replies_text_from line (take n replies) ++ replies_text_from (line + n) (drop n replies)
text-split line zero replies = ap (λ (k : ℕ). replies_text_from k replies) (omega arith)
text-split line (suc n) [] = refl
text-split line (suc n) (r ∷ replies) =
    ap (λ (text : List ℕ). reply_text line r ++ text) (text-split (line + 1) n replies)
    ∙ sym (append_assoc (reply_text line r) (replies_text_from (line + 1) (take n replies)) (replies_text_from (line + 1 + n) (drop n replies)))
    ∙ ap (λ (k : ℕ). (reply_text line r ++ replies_text_from (line + 1) (take n replies)) ++ replies_text_from k (drop n replies)) (omega arith)

-- the same where there may be fewer
pub text-cut : (line most : ℕ) (replies : List Reply) → replies_text_from line replies ≡ replies_text_from line (take most replies) ++ replies_text_from (line + length (take most replies)) (drop (length (take most replies)) replies)
text-cut line most replies =
    text-split line (length (take most replies)) replies
    ∙ ap (λ (rs : List Reply). replies_text_from line rs ++ replies_text_from (line + length (take most replies)) (drop (length (take most replies)) replies)) (take-few most replies)
  where
    take-few : (n : ℕ) (rs : List Reply) → take (length (take n rs)) rs ≡ take n rs
    take-few n rs = ap (λ (k : ℕ). take k rs) (length-take n rs) ∙ take_min n rs
