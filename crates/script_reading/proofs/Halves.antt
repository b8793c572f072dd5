-- A text that is cut at a border is read as its parts are.
use Rattle.std.proofs.Common.{◌≡◌, ℕ, ◌+◌, ◌<◌, ◌==◌, List, [], ◌∷◌, ◌++◌, length, take, drop, take_all, append-nil, take-append-drop, refl, sym, ap, subst, ◌∙◌, inl, inr, Result, Ok, Err, arith}
use Rattle.std.specs.List.{slice_split, onto_first}
use Rattle.std.proofs.lemmas.Bool.{cases_Bool}
use Rattle.std.proofs.lemmas.List.{drop_all, drop_more, take_more}
use Rattle.std.proofs.lemmas.List.Splits.{slice_split-cons_yes, slice_split-cons_no}
use Rattle.request_text.specs.declared.request.Line.{Line}
use Rattle.request_text.specs.Scripts.{without_last_empty, lines_of, line_of, lines_from, onto, script_of, BadPlace}
use Rattle.request_text.proofs.Splits.{slice_split-nonempty}
use Rattle.script_reading.specs.Borders.{IsBorder}

-- the lines of a text, the last of which may be empty
abbrev cuts : List ℕ → List (List ℕ)
cuts bytes = slice_split (λ b. b == 10) bytes

-- a byte goes onto the first of the parts, whatever stands behind them
onto_first-append : (x : ℕ) (parts others : List (List ℕ)) (first : List ℕ) (more : List (List ℕ)) → parts ≡ first ∷ more
    → onto_first x (parts ++ others) ≡ onto_first x parts ++ others
onto_first-append x parts others first more some = subst (λ ps. onto_first x (ps ++ others) ≡ onto_first x ps ++ others) (sym some) refl

-- a newline cuts a text apart
cuts-behind : (a b : List ℕ) → cuts (a ++ 10 ∷ b) ≡ cuts a ++ cuts b
cuts-behind [] b = slice_split-cons_yes (λ c. c == 10) 10 b refl
cuts-behind (x ∷ a) b =
    elim (cases_Bool (x == 10)) [
      | inl is ↦
          slice_split-cons_yes (λ c. c == 10) x (a ++ 10 ∷ b) is ∙ ap (λ parts. [] ∷ parts) (cuts-behind a b)
          ∙ sym (ap (λ parts. parts ++ cuts b) (slice_split-cons_yes (λ c. c == 10) x a is))
      | inr other ↦
          let some = slice_split-nonempty (λ c. c == 10) a in
          slice_split-cons_no (λ c. c == 10) x (a ++ 10 ∷ b) other ∙ ap (onto_first x) (cuts-behind a b)
          ∙ onto_first-append x (cuts a) (cuts b) some.0 some.1 some.2
          ∙ sym (ap (λ parts. parts ++ cuts b) (slice_split-cons_no (λ c. c == 10) x a other))
    ]

-- only the last part is left out where it is empty
last-behind : (xs : List (List ℕ)) (y : List ℕ) (ys : List (List ℕ)) → without_last_empty (xs ++ y ∷ ys) ≡ xs ++ without_last_empty (y ∷ ys)
last-behind [] y ys = refl
last-behind (x ∷ []) y ys = refl
last-behind (x ∷ z ∷ xs) y ys = ap (λ lines. x ∷ lines) (last-behind (z ∷ xs) y ys)

lines-first : (a b : List ℕ) → lines_of (a ++ 10 ∷ b) ≡ cuts a ++ lines_of b
lines-first a b =
    let some = slice_split-nonempty (λ c. c == 10) b in
    ap without_last_empty (cuts-behind a b)
    ∙ ap (λ parts. without_last_empty (cuts a ++ parts)) some.2
    ∙ last-behind (cuts a) some.0 some.1
    ∙ sym (ap (λ parts. cuts a ++ without_last_empty parts) some.2)

-- the lines of a text that is cut behind a newline are those of its parts
lines-behind : (a b : List ℕ) → lines_of (a ++ 10 ∷ b) ≡ lines_of (a ++ 10 ∷ []) ++ lines_of b
lines-behind a b = lines-first a b ∙ ap (λ lines. lines ++ lines_of b) (sym (lines-first a [] ∙ append-nil (cuts a)))

-- a list of lines that is read: its first line, and the others
onto-ok : (read : Result Line ℕ) (n : ℕ) (rest : Result (List Line) BadPlace) (lines : List Line) → onto read n rest ≡ Ok lines
    → (line : Line) × (more : List Line) × (read ≡ Ok line) × (rest ≡ Ok more) × (line ∷ more ≡ lines)
onto-ok (Err column) n rest lines h = cc h
onto-ok (Ok line) n (Err place) lines h = cc h
onto-ok (Ok line) n (Ok more) lines h =
    (line, more, refl, refl, ap (λ (r : Result (List Line) BadPlace). elim r [ Ok x ↦ x | Err e ↦ line ∷ more ]) h)

-- lines are read as they are from whatever number on
from-any : (xs : List (List ℕ)) (n m : ℕ) (lines : List Line) → lines_from n xs ≡ Ok lines → lines_from m xs ≡ Ok lines
from-any [] n m lines h = h
from-any (x ∷ xs) n m lines h =
    let one = onto-ok (line_of x) n (lines_from (n + 1) xs) lines h in
    ap (λ r. onto r m (lines_from (m + 1) xs)) one.2
    ∙ ap (onto (Ok one.0) m) (from-any xs (n + 1) (m + 1) one.1 one.3) ∙ ap Ok one.4

-- two lists of lines are read as each of them is
both-read : (xs ys : List (List ℕ)) (n m k : ℕ) (ls ms : List Line) → lines_from n xs ≡ Ok ls → lines_from m ys ≡ Ok ms
    → lines_from k (xs ++ ys) ≡ Ok (ls ++ ms)
both-read [] ys n m k ls ms first second =
    let none : [] ≡ ls = ap (λ (r : Result (List Line) BadPlace). elim r [ Ok x ↦ x | Err e ↦ [] ]) first in
    from-any ys m k ms second ∙ ap (λ l. Ok (l ++ ms)) none
both-read (x ∷ xs) ys n m k ls ms first second =
    let one = onto-ok (line_of x) n (lines_from (n + 1) xs) ls first in
    ap (λ r. onto r k (lines_from (k + 1) (xs ++ ys))) one.2
    ∙ ap (onto (Ok one.0) k) (both-read xs ys (n + 1) m (k + 1) one.1 ms one.3 second)
    ∙ ap (λ l. Ok (l ++ ms)) one.4

-- a text that is cut at a border is the lines of its parts, where these are scripts
pub halves-read : (bytes : List ℕ) (at : ℕ) (ls ms : List Line) → IsBorder bytes at
    → script_of (take at bytes) ≡ Ok ls → script_of (drop at bytes) ≡ Ok ms → script_of bytes ≡ Ok (ls ++ ms)
halves-read bytes at ls ms (within, inl end) first second =
    let whole : take at bytes ≡ bytes = take_all at bytes (omega arith) in
    let none : drop at bytes ≡ [] = drop_all at bytes (omega arith) in
    let empty : [] ≡ ms = ap (λ (r : Result (List Line) BadPlace). elim r [ Ok x ↦ x | Err e ↦ [] ]) (ap script_of (sym none) ∙ second) in
    ap script_of (sym whole) ∙ first ∙ ap Ok (sym (append-nil ls)) ∙ ap (λ l. Ok (ls ++ l)) empty
halves-read bytes at ls ms (within, inr (n, is, newline)) first second =
    let lt : n < length bytes = omega arith in
    let front : take at bytes ≡ take n bytes ++ 10 ∷ [] =
    ap (λ k. take k bytes) is ∙ take_more bytes n 0 lt ∙ ap (λ b. take n bytes ++ b ∷ []) newline in
    let back : drop at bytes ≡ drop (n + 1) bytes = ap (λ k. drop k bytes) is in
    let whole : bytes ≡ take n bytes ++ 10 ∷ drop (n + 1) bytes =
    sym (take-append-drop n bytes) ∙ ap (λ zs. take n bytes ++ zs) (drop_more bytes n 0 lt ∙ ap (λ b. b ∷ drop (n + 1) bytes) newline) in
    ap script_of whole ∙ ap (lines_from 1) (lines-behind (take n bytes) (drop (n + 1) bytes))
    ∙ both-read (lines_of (take n bytes ++ 10 ∷ [])) (lines_of (drop (n + 1) bytes)) 1 1 1 ls ms
    (ap script_of (sym front) ∙ first) (ap script_of (sym back) ∙ second)
