-- How a list is cut at its first separator, and the words and lines that follow.
use Rattle.std.proofs.Common.{◌≡◌, ℕ, ◌+◌, ◌-◌, ◌<◌, ◌≤◌, ◌==◌, Bool, false, List, [], ◌∷◌, ◌++◌, length, get_or, take, drop, All, refl, sym, ap, subst, ◌∙◌, inl, inr, eq-eqb, ◌≢◌, take-append-drop, Option, Some, None, Err, arith}
use Rattle.request_text.specs.declared.request.Request.{Request}
use Rattle.std.specs.Borrow.{Bor}
use Rattle.std.specs.List.{slice_split, onto_first}
use Rattle.std.specs.Option.{option_map_or}
use Rattle.std.proofs.lemmas.Bool.{cases_Bool, ne_eqb}
use Rattle.std.proofs.lemmas.List.{drop_more, take_more}
use Rattle.std.proofs.lemmas.List.Elements.{All-nil, All-cons, All-append}
use Rattle.std.proofs.lemmas.List.Splits.{slice_split-cons_yes, slice_split-cons_no, slice_split_at}
use Rattle.request_text.specs.Scripts.{placed, done, without_last_empty, lines_of}
use Rattle.request_text.specs.Ahead.{column_at, words_at}

module _ {X : Type 0} (p : X → Bool) where
  -- there is a first part
  pub slice_split-nonempty : (xs : List X) → (first : List X) × (more : List (List X)) × (slice_split p xs ≡ first ∷ more)
  slice_split-nonempty [] = ([], [], refl)
  slice_split-nonempty (x ∷ xs) =
      let parts = slice_split-nonempty xs in
      elim (cases_Bool (p x)) [
        | inl is ↦ ([], slice_split p xs, slice_split-cons_yes p x xs is)
        | inr not_is ↦ (x ∷ parts.0, parts.1, slice_split-cons_no p x xs not_is ∙ ap (onto_first x) parts.2)
      ]

-- the first part ends at the first separator
pub slice_split-read : (separator : ℕ) (xs : List ℕ) (i : ℕ) → i < length xs → get_or xs i 0 ≡ separator
    → All (λ b. (b == separator) ≡ false) (take i xs)
    → slice_split (λ b. b == separator) xs ≡ take i xs ∷ slice_split (λ b. b == separator) (drop (i + 1) xs)
slice_split-read separator xs i lt read before =
    let parts : xs ≡ take i xs ++ separator ∷ drop (i + 1) xs =
    sym (take-append-drop i xs) ∙ ap (λ zs. take i xs ++ zs) (drop_more xs i 0 lt ∙ ap (λ z. z ∷ drop (i + 1) xs) read) in
    ap (slice_split (λ b. b == separator)) parts
    ∙ slice_split_at (λ b. b == separator) (take i xs) separator (drop (i + 1) xs) before (eq-eqb separator separator refl)

-- one more byte is no separator
pub All-take-more : (separator : ℕ) (xs : List ℕ) (i : ℕ) → i < length xs → get_or xs i 0 ≢ separator
    → All (λ b. (b == separator) ≡ false) (take i xs) → All (λ b. (b == separator) ≡ false) (take (i + 1) xs)
All-take-more separator xs i lt other before =
    let P : ℕ → Type 0 = λ b. (b == separator) ≡ false in
    rw (take_more xs i 0 lt) (All-append P (take i xs) (get_or xs i 0 ∷ []) before (All-cons P (get_or xs i 0) [] (ne_eqb (get_or xs i 0) separator other) (All-nil P)))

-- the parts of what stands after a cut
abbrev pub parts_after : ℕ → Option (Bor (List ℕ)) → List (List ℕ)
parts_after separator after = option_map_or (λ rest. slice_split (λ b. b == separator) rest.now) after []

-- how long what stands from a cut on is
abbrev pub length_after : Option (Bor (List ℕ)) → ℕ
length_after after = option_map_or (λ rest. length rest.now + 1) after 0

-- the next word stands where the rest of the line begins
pub column_at-words : (end : ℕ) (rest : Bor (List ℕ)) → column_at end (words_at end (Some rest)) ≡ end - length rest.now
column_at-words end rest =
    let parts = slice_split-nonempty (λ b. b == 32) rest.now in
    ap (λ words. column_at end (placed (end - length rest.now) words)) parts.2

-- the next word, and the words behind it
pub words_at-cut : (end : ℕ) (rest : Bor (List ℕ)) (word : List ℕ) (after : Option (Bor (List ℕ)))
    → slice_split (λ b. b == 32) rest.now ≡ word ∷ parts_after 32 after
    → length rest.now ≡ length word + length_after after
    → length rest.now + 1 ≤ end
    → words_at end (Some rest) ≡ record { column = end - length rest.now; bytes = word } ∷ words_at end after
words_at-cut end rest word None parts len fits = ap (placed (end - length rest.now)) parts
words_at-cut end rest word (Some r) parts len fits =
    let column : end - length rest.now + length word + 1 ≡ end - length r.now = omega arith in
    ap (placed (end - length rest.now)) parts
    ∙ ap (λ c. record { column = end - length rest.now; bytes = word } ∷ placed c (slice_split (λ b. b == 32) r.now)) column

-- a word that is left is one too many
pub done-words : (request : Request) (end : ℕ) (rest : Bor (List ℕ))
    → done request (words_at end (Some rest)) ≡ Err (column_at end (words_at end (Some rest)))
done-words request end rest =
    let parts = slice_split-nonempty (λ b. b == 32) rest.now in
    let P : List (List ℕ) → Type 0 = λ words. done request (placed (end - length rest.now) words) ≡ Err (column_at end (placed (end - length rest.now) words)) in
    subst P (sym parts.2) refl

-- what stands after a cut, or nothing
abbrev pub rest_after : Option (Bor (List ℕ)) → List ℕ
rest_after None = []
rest_after (Some rest) = rest.now

-- the first line of a text that is not empty, and the lines behind it
pub lines_of-cut : (bytes line : List ℕ) (after : Option (Bor (List ℕ)))
    → slice_split (λ b. b == 10) bytes ≡ line ∷ parts_after 10 after
    → length bytes ≡ length line + length_after after
    → 0 < length bytes
    → lines_of bytes ≡ line ∷ lines_of (rest_after after)
lines_of-cut bytes [] None parts len some = absurd (omega arith)
lines_of-cut bytes (b ∷ line) None parts len some = ap without_last_empty parts
lines_of-cut bytes line (Some rest) parts len some =
    let more = slice_split-nonempty (λ b. b == 10) rest.now in
    ap without_last_empty parts
    ∙ ap (λ lines. without_last_empty (line ∷ lines)) more.2
    ∙ sym (ap (λ lines. line ∷ without_last_empty lines) more.2)

-- a line takes at least one byte
pub length-rest_after : (bytes line : List ℕ) (after : Option (Bor (List ℕ)))
    → length bytes ≡ length line + length_after after → 0 < length bytes → length (rest_after after) + 1 ≤ length bytes
length-rest_after bytes line None len some = omega arith
length-rest_after bytes line (Some rest) len some = omega arith
