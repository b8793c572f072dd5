-- What digits stand for.
use Rattle.std.proofs.Common.{◌≡◌, ℕ, ◌+◌, ◌-◌, ◌*◌, ◌<◌, ◌≤◌, List, [], ◌∷◌, length, get_or, drop, None, arith}
use Rattle.std.specs.Prelude.{fold}
use Rattle.request_text.specs.Words.{digits_value, number_of}
use Rattle.std.proofs.lemmas.List.{drop_more}

-- what digits stand for behind this number
abbrev pub digits_from : ℕ → List ℕ → ℕ
digits_from n digits = fold (λ n b. 10 * n + (b - 48)) n digits

-- more digits stand for no less
pub digits_from-grows : (n : ℕ) (digits : List ℕ) → n ≤ digits_from n digits
digits_from-grows n [] = omega arith
digits_from-grows n (b ∷ digits) = let more = digits_from-grows (10 * n + (b - 48)) digits in omega (arith, more)

-- so does one more digit
pub digits_from-at : (word : List ℕ) (i n : ℕ) → i < length word → 10 * n + (get_or word i 0 - 48) ≤ digits_from n (drop i word)
digits_from-at word i n lt = rw (drop_more word i 0 lt) (digits_from-grows (10 * n + (get_or word i 0 - 48)) (drop (i + 1) word))

-- a number above the limit is none
pub number_of-above : (most : ℕ) (word : List ℕ) → most < digits_value word → number_of most word ≡ None
number_of-above most word above = grind arith
