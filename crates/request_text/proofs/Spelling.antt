-- What is spelled is read: numbers, payloads and words.
use Rattle.std.proofs.Common.{◌≡◌, ℕ, zero, suc, ◌/◌, ◌%◌, ◌^◌, ◌<◌, ◌≤◌, ◌==◌, Bool, true, false, ◌&&◌, List, [], ◌∷◌, ◌++◌, length, get_or, flat_map, append-nil, All, refl, rules, ap, ◌∙◌, inl, inr, Some, arith}
use Rattle.std.specs.Prelude.{codes, decimal, not, slice_index}
use Rattle.std.specs.List.{list_all, slice_split}
use Rattle.std.proofs.lemmas.Bool.{and_parts, cases_lt, cases_Bool}
use Rattle.std.proofs.lemmas.List.Elements.{All-nil, All-cons}
use Rattle.std.proofs.lemmas.List.Splits.{slice_split_none, slice_split_at}
use Rattle.std.proofs.lemmas.Fmt.{decimal_digit, decimal_nonempty, first_decimal, digits_decimal, digits_value-decimal}
use Rattle.std.proofs.lemmas.Str.Parse.{IsNumeralModel, numerals_by_fold}
use Rattle.hex.specs.Hex.{encode_with, encode_lower, lower_digits, IsBytes}
use Rattle.hex.proofs.HexLemmas.{length-encode_with, decode_of-encode_lower}
use Rattle.request_text.specs.Words.{is_digit, is_decimal, digits_value, number_of, same_word, is_lower_digit, is_hex_word, payload_word, payload_of, ok_bytes}
use Rattle.request_text.specs.Scripts.{word}
use Rattle.request_text.specs.Limits.{IsPayload}
use Rattle.request_text.proofs.Numbers.{digits_from}

-- ---- numbers

-- the digits that a text may have, and what they stand for
own : IsNumeralModel (λ ds. list_all is_digit ds ≡ true) (digits_from 0)
own = numerals_by_fold _ (search rules) digits_from (search rules)

-- a text of digits that does not begin with 0, or has one digit, has the form of a number
is_decimal-digits : (ds : List ℕ) → list_all is_digit ds ≡ true → 0 < length ds → 48 < get_or ds 0 0 → is_decimal ds ≡ true
is_decimal-digits [] digits some first = absurd (omega arith)
is_decimal-digits (b ∷ []) digits some first = (and_parts (is_digit b) true digits).0
is_decimal-digits (b ∷ c ∷ ds) digits some first = grind arith

-- a number is spelled in the form of one
is_decimal-decimal : (n : ℕ) → n < 2 ^ 64 → is_decimal (decimal n) ≡ true
is_decimal-decimal n fits =
    elim (cases_lt 0 n) [
      | inl above ↦ is_decimal-digits (decimal n) (digits_decimal own n fits) (decimal_nonempty n fits) (first_decimal n above fits)
      | inr none ↦
          let is_zero : n ≡ 0 = omega arith in
          rw (is_zero, decimal_digit 0 (omega arith)) refl
    ]

-- a number within its limit is read from its spelling
pub number_of-decimal : (most n : ℕ) → n ≤ most → n < 2 ^ 64 → number_of most (decimal n) ≡ Some n
number_of-decimal most n within fits =
    let form = is_decimal-decimal n fits in
    let value : digits_value (decimal n) ≡ n = digits_value-decimal own n fits in
    grind arith

-- ---- payloads

-- the test of one digit of the table, and of the first n
abbrev lower_to : ℕ → Bool
lower_to zero = true
lower_to (suc n) = is_lower_digit (slice_index lower_digits n) && lower_to n

lower_to-at : (n d : ℕ) → lower_to n ≡ true → d < n → is_lower_digit (slice_index lower_digits d) ≡ true
lower_to-at zero d h lt = absurd (omega arith)
lower_to-at (suc n) d h lt =
    let parts = and_parts (is_lower_digit (slice_index lower_digits n)) (lower_to n) h in
    elim (cases_lt d n) [
      | inl below ↦ lower_to-at n d parts.1 below
      | inr top ↦
          let e : d ≡ n = omega arith in
          rw e parts.0
    ]

-- a digit of the table is a lower-case one
lower-digit : (d : ℕ) → d < 16 → is_lower_digit (slice_index lower_digits d) ≡ true
lower-digit d lt = lower_to-at 16 d refl lt

-- the digits of bytes are lower-case ones
lower-encode_lower : (bytes : List ℕ) → IsBytes bytes → list_all is_lower_digit (encode_lower bytes) ≡ true
unfolding encode_with
lower-encode_lower [] h = refl
lower-encode_lower (b ∷ bytes) h =
    let fits : b < 256 = h 0 in
    let high = lower-digit (b / 16) (omega arith) in
    let low = lower-digit (b % 16) (omega arith) in
    let more = lower-encode_lower bytes (λ k. h (suc k)) in
    rw (high, low) more

-- equal words are as long
same_word-length : (xs ys : List ℕ) → same_word xs ys ≡ true → length xs ≡ length ys
same_word-length [] [] h = refl
same_word-length [] (y ∷ ys) h = cc h
same_word-length (x ∷ xs) [] h = cc h
same_word-length (x ∷ xs) (y ∷ ys) h = let parts = and_parts (x == y) (same_word xs ys) h in let more = same_word-length xs ys parts.1 in omega arith

-- digits of two bytes and more are no dash
no_dash : (word : List ℕ) → 2 ≤ length word → same_word word (codes "-") ≡ false
no_dash word long =
    elim (cases_Bool (same_word word (codes "-"))) [
      | inl same ↦ absurd (omega (arith, same_word-length word (codes "-") same))
      | inr other ↦ other
    ]

-- a payload is read from its spelling
pub payload_of-payload_word : (p : List ℕ) → IsPayload p → payload_of (payload_word p) ≡ Some p
payload_of-payload_word [] within = refl
payload_of-payload_word (b ∷ bytes) within =
    let p = b ∷ bytes in
    let len = length-encode_with lower_digits p in
    let digits = lower-encode_lower p within.1 in
    let dash = no_dash (encode_lower p) (omega (arith, len)) in
    let form : is_hex_word (encode_lower p) ≡ true = grind (arith, len, digits, within.0) in
    rw (dash, form) (ap ok_bytes (decode_of-encode_lower p within.1))

-- ---- words

-- a byte that ends neither a word nor a line
abbrev pub is_plain : ℕ → Bool
is_plain b = not (b == 32) && not (b == 10)

abbrev pub IsPlain : List ℕ → Type 0
IsPlain bytes = list_all is_plain bytes ≡ true

-- digits are plain
plain-lower : (b : ℕ) → is_lower_digit b ≡ true → is_plain b ≡ true
plain-lower b h = grind arith

pub plain-lower_digits : (bytes : List ℕ) → list_all is_lower_digit bytes ≡ true → IsPlain bytes
plain-lower_digits [] h = refl
plain-lower_digits (b ∷ bytes) h =
    let parts = and_parts (is_lower_digit b) (list_all is_lower_digit bytes) h in
    rw (plain-lower b parts.0) (plain-lower_digits bytes parts.1)

plain-digits : (bytes : List ℕ) → list_all is_digit bytes ≡ true → IsPlain bytes
plain-digits [] h = refl
plain-digits (b ∷ bytes) h =
    let parts = and_parts (is_digit b) (list_all is_digit bytes) h in
    let plain : is_plain b ≡ true = grind (arith, parts.0) in
    rw plain (plain-digits bytes parts.1)

pub plain-decimal : (n : ℕ) → n < 2 ^ 64 → IsPlain (decimal n)
plain-decimal n fits = plain-digits (decimal n) (digits_decimal own n fits)

pub plain-payload_word : (p : List ℕ) → IsPayload p → IsPlain (payload_word p)
plain-payload_word [] within = refl
plain-payload_word (b ∷ bytes) within = plain-lower_digits (encode_lower (b ∷ bytes)) (lower-encode_lower (b ∷ bytes) within.1)

-- no plain byte is the space or the newline
pub no_space : (bytes : List ℕ) → IsPlain bytes → All (λ b. (b == 32) ≡ false) bytes
no_space [] h = All-nil (λ b. (b == 32) ≡ false)
no_space (b ∷ bytes) h =
    let parts = and_parts (is_plain b) (list_all is_plain bytes) h in
    let other : (b == 32) ≡ false = grind (arith, parts.0) in
    All-cons (λ b. (b == 32) ≡ false) b bytes other (no_space bytes parts.1)

pub no_newline : (bytes : List ℕ) → IsPlain bytes → All (λ b. (b == 10) ≡ false) bytes
no_newline [] h = All-nil (λ b. (b == 10) ≡ false)
no_newline (b ∷ bytes) h =
    let parts = and_parts (is_plain b) (list_all is_plain bytes) h in
    let other : (b == 10) ≡ false = grind (arith, parts.0) in
    All-cons (λ b. (b == 10) ≡ false) b bytes other (no_newline bytes parts.1)

-- words, with a space before each
abbrev pub spaced : List (List ℕ) → List ℕ
spaced words = flat_map word words

-- each of the words is plain
abbrev pub ArePlain : List (List ℕ) → Type 0
ArePlain [] = Unit {0}
ArePlain (w ∷ words) = IsPlain w × ArePlain words

-- words are split where they were joined
pub slice_split-spaced : (first : List ℕ) (words : List (List ℕ)) → IsPlain first → ArePlain words
    → slice_split (λ b. b == 32) (first ++ spaced words) ≡ first ∷ words
slice_split-spaced first [] plain rest = rw (append-nil first) (slice_split_none (λ b. b == 32) first (no_space first plain))
slice_split-spaced first (w ∷ words) plain rest =
    slice_split_at (λ b. b == 32) first 32 (w ++ spaced words) (no_space first plain) refl
    ∙ ap (λ ws. first ∷ ws) (slice_split-spaced w words rest.0 rest.1)
