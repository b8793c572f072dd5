-- What is left of a list without some of its items, and how low the visible epoch is.
use Rattle.std.proofs.Common.{◌≡◌, ℕ, ◌≤◌, Bool, true, false, List, [], ◌∷◌, refl, ap, arith}
use Rattle.std.specs.Prelude.{◌==◌, not, filter, cond, if◌then◌else◌, min}
use Rattle.core_states.specs.declared.clock.Active.{Active}
use Rattle.core_states.specs.Numbers.{without_number, without_active, visible_of}

pub filter_number : (v : ℕ) (xs : List ℕ) → filter (λ x. not (x == v)) xs ≡ without_number v xs
filter_number v [] = refl
filter_number v (x ∷ xs) = by_test (x == v) (filter_number v xs)
  where
    by_test : (b : Bool) → filter (λ y. not (y == v)) xs ≡ without_number v xs
        → cond (not b) (x ∷ filter (λ y. not (y == v)) xs) (filter (λ y. not (y == v)) xs) ≡ (if b then without_number v xs else x ∷ without_number v xs)
    by_test true ih = ih
    by_test false ih = ap (λ ys. x ∷ ys) ih

pub filter_active : (t : ℕ) (xs : List Active) → filter (λ x. not (x.tid == t)) xs ≡ without_active t xs
filter_active t [] = refl
filter_active t (x ∷ xs) = by_test (x.tid == t) (filter_active t xs)
  where
    by_test : (b : Bool) → filter (λ y. not (y.tid == t)) xs ≡ without_active t xs
        → cond (not b) (x ∷ filter (λ y. not (y.tid == t)) xs) (filter (λ y. not (y.tid == t)) xs) ≡ (if b then without_active t xs else x ∷ without_active t xs)
    by_test true ih = ih
    by_test false ih = ap (λ ys. x ∷ ys) ih

pub visible_of_low : (last : ℕ) (xs : List Active) → visible_of last xs ≤ last
visible_of_low last [] = omega arith
visible_of_low last (x ∷ xs) = omega (arith, visible_of_low last xs)
