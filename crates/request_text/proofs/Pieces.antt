-- The pieces of the text of a reply.
use Rattle.std.proofs.Common.{◌≡◌, ℕ, ◌+◌, ◌/◌, ◌%◌, ◌<◌, ◌≤◌, List, [], ◌∷◌, ◌++◌, length, get_or, take, drop, take-append-drop, flat_map, append_assoc, refl, sym, ap, ◌∙◌, inl, inr, Some, None, arith}
use Rattle.std.specs.Prelude.{slice_get, decimal}
use Rattle.std.proofs.lemmas.List.{drop_more, drop_all}
use Rattle.std.proofs.lemmas.Option.{slice_get_within, slice_get_cases, get_or_from_slice_get}
use Rattle.hex.specs.Hex.{encode_with, encode_lower, lower_digits}
use Rattle.request_text.specs.declared.reply.Reply.{Reply}
use Rattle.request_text.specs.Words.{payload_word}
use Rattle.request_text.specs.ReplyText.{reply_text, replies_text_from, reply_name, other_words}
use Rattle.request_text.specs.Scripts.{word}

-- the texts of the items from a place on: that of the first, and those behind it
pub flat_map-drop : {X : Type 0} (f : X → List ℕ) (xs : List X) (i : ℕ) (d : X) → i < length xs → flat_map f (drop i xs) ≡ f (get_or xs i d) ++ flat_map f (drop (i + 1) xs)
flat_map-drop f xs i d lt = ap (flat_map f) (drop_more xs i d lt)

-- the same, where the item was read
pub flat_map-drop_some : {X : Type 0} (f : X → List ℕ) (xs : List X) (i : ℕ) (x : X) → slice_get xs i ≡ Some x → flat_map f (drop i xs) ≡ f x ++ flat_map f (drop (i + 1) xs)
flat_map-drop_some f xs i x read =
    flat_map-drop f xs i x (slice_get_within xs i x read) ∙ ap (λ y. f y ++ flat_map f (drop (i + 1) xs)) (get_or_from_slice_get xs i x x read)

-- no item is left from the end on
pub flat_map-drop_all : {X : Type 0} (f : X → List ℕ) (xs : List X) (i : ℕ) → length xs ≤ i → flat_map f (drop i xs) ≡ []
flat_map-drop_all f xs i past = ap (flat_map f) (drop_all i xs past)

-- no item was read
pub flat_map-drop_none : {X : Type 0} (f : X → List ℕ) (xs : List X) (i : ℕ) → slice_get xs i ≡ None → flat_map f (drop i xs) ≡ []
flat_map-drop_none f xs i none =
    elim (slice_get_cases xs i).1 [
      | inl found ↦ cc (sym none ∙ found.2)
      | inr past ↦ flat_map-drop_all f xs i past.0
    ]

-- digits of bytes in a row
encode_with-append : (t xs ys : List ℕ) → encode_with t (xs ++ ys) ≡ encode_with t xs ++ encode_with t ys
unfolding encode_with
encode_with-append t [] ys = refl
encode_with-append t (x ∷ xs) ys = ap (λ zs. get_or t (x / 16) 0 ∷ get_or t (x % 16) 0 ∷ zs) (encode_with-append t xs ys)

-- the digits of a front and of the rest
pub encode_lower-split : (n : ℕ) (bytes : List ℕ) → encode_lower bytes ≡ encode_lower (take n bytes) ++ encode_lower (drop n bytes)
encode_lower-split n bytes = ap encode_lower (sym (take-append-drop n bytes)) ∙ encode_with-append lower_digits (take n bytes) (drop n bytes)

-- no byte has no digits
pub encode_lower-nil : (bytes : List ℕ) → length bytes ≤ 0 → encode_lower bytes ≡ []
unfolding encode_with
encode_lower-nil [] none = refl
encode_lower-nil (b ∷ bytes) none = absurd (omega arith)

-- some bytes are spelled by their digits
pub payload_word-some : (bytes : List ℕ) → 0 < length bytes → payload_word bytes ≡ encode_lower bytes
payload_word-some [] some = absurd (omega arith)
payload_word-some (b ∷ bytes) some = refl

-- the replies from a place on: the one that was read there, and those behind it
pub replies_text_from-drop_at : (line : ℕ) (replies : List Reply) (i : ℕ) (r : Reply) → i < length replies → r ≡ get_or replies i r
    → replies_text_from line (drop i replies) ≡ reply_text line r ++ replies_text_from (line + 1) (drop (i + 1) replies)
replies_text_from-drop_at line replies i r lt read =
    ap (replies_text_from line) (drop_more replies i r lt)
    ∙ ap (λ x. reply_text line x ++ replies_text_from (line + 1) (drop (i + 1) replies)) (sym read)

-- the pieces in which a reply is put
pub reply_text-pieces : (line : ℕ) (r : Reply) (name : List ℕ) → name ≡ word (reply_name r) → reply_text line r ≡ decimal line ++ (name ++ (other_words r ++ 10 ∷ []))
reply_text-pieces line r name is =
    append_assoc (decimal line) (word (reply_name r) ++ other_words r) (10 ∷ [])
    ∙ ap (λ ws. decimal line ++ ws) (append_assoc (word (reply_name r)) (other_words r) (10 ∷ []) ∙ ap (λ n. n ++ (other_words r ++ 10 ∷ [])) (sym is))
