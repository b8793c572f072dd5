-- Numbers that differ: how many there are below a bound, and which are new to them.
use Rattle.std.proofs.Common.{◌≡◌, ℕ, ◌+◌, ◌<◌, ◌≤◌, true, false, not, List, [], ◌∷◌, length, refl, inl, inr, arith}
use Rattle.std.specs.Prelude.{◌==◌, eqb, nat_le}
use Rattle.std.specs.List.{list_any, list_all, IsDistinct, AllByRecursion}
use Rattle.std.proofs.lemmas.Map.Steps.{length-le_from_distinct_below}
use Rattle.std.proofs.lemmas.Bool.{false≢true, and_parts, or_parts, or_cases, or_from, not-true, eqb-true, eqb-false, ne_eqb, leb-true}
use Rattle.graph_model.specs.Records.{all_differ}
use Rattle.group_codec.proofs.Making.{is_in}
use Rattle.graph_recover.specs.Bases.{greatest_of}

other_than : (x : ℕ) (xs : List ℕ) → is_in x xs ≡ false → AllByRecursion (λ y. eqb x y ≡ false) xs
other_than x [] none = tt
other_than x (y ∷ xs) none =
    let parts = or_parts (y == x) (is_in x xs) none in
    (ne_eqb x y (λ e. eqb-false y x parts.0 (omega (arith, e))), other_than x xs parts.1)

distinct_from : (xs : List ℕ) → all_differ xs ≡ true → IsDistinct eqb xs
unfolding IsDistinct
distinct_from [] d = tt
distinct_from (x ∷ xs) d =
    let parts = and_parts (not (is_in x xs)) (all_differ xs) d in
    (other_than x xs (not-true _ parts.0), distinct_from xs parts.1)

-- a number that is above all of them is none of them
pub above-new : (x : ℕ) (xs : List ℕ) → greatest_of xs < x → is_in x xs ≡ false
above-new x [] above = refl
above-new x (y ∷ xs) above = or_from _ _ (ne_eqb y x (λ e. omega (arith, e, above))) (above-new x xs (omega (arith, above)))

within : (q : ℕ) (xs : List ℕ) → list_any (eqb q) xs ≡ true → q ≤ greatest_of xs
within q [] among = absurd (false≢true among)
within q (x ∷ xs) among = elim (or_cases (eqb q x) (list_any (eqb q) xs) among) [
  | inl is ↦ let e = eqb-true q x is in omega (arith, e)
  | inr rest ↦ let le = within q xs rest in omega (arith, le)
]

none_is_0 : (ys : List ℕ) → list_all (nat_le 1) ys ≡ true → is_in 0 ys ≡ false
none_is_0 [] h = refl
none_is_0 (y ∷ ys) h =
    let parts = and_parts (nat_le 1 y) (list_all (nat_le 1) ys) h in
    let le = leb-true 1 y parts.0 in
    or_from _ _ (ne_eqb y 0 (λ e. omega (arith, e, le))) (none_is_0 ys parts.1)

distinct_with_0 : (xs : List ℕ) → list_all (nat_le 1) xs ≡ true → all_differ xs ≡ true → IsDistinct eqb (0 ∷ xs)
unfolding IsDistinct
distinct_with_0 xs low differ = (other_than 0 xs (none_is_0 xs low), distinct_from xs differ)

-- numbers from 1 on that differ are no more than the greatest of them
pub no_more_than : (xs : List ℕ) → list_all (nat_le 1) xs ≡ true → all_differ xs ≡ true → length xs ≤ greatest_of xs
no_more_than xs low differ =
    let count = length-le_from_distinct_below (0 ∷ xs) (greatest_of xs + 1) (distinct_with_0 xs low differ) (λ q among. let le = within q (0 ∷ xs) among in omega (arith, le)) in
    omega (arith, count)
