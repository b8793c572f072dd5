-- As many distinct numbers as there are places.
use Rattle.std.proofs.Common.{◌≡◌, ℕ, zero, suc, ◌+◌, ◌≤◌, ◌<◌, Bool, true, false, not, cond, List, [], ◌∷◌, length, refl, sym, ap, ◌∙◌, subst, arith, inl, inr, ◌⊎◌, ⊎_elim}
use Rattle.std.specs.Prelude.{◌==◌, if◌then◌else◌}
use Rattle.std.specs.List.{list_any}
use Rattle.std.proofs.lemmas.Bool.{eqb-true, eq-eqb, cases_Bool, cases_eq, both_ways, false≢true, or_right, or_left, or_cases, or_from, or_parts, and_parts, and_from, not-true, not_from_false, false_from_ne_true}
use Rattle.graph_model.specs.Records.{all_differ}
use Rattle.graph_legal.specs.Traces.{is_among}

abbrev pub without : ℕ → List ℕ → List ℕ
without n [] = []
without n (x ∷ xs) = if x == n then without n xs else x ∷ without n xs

without_among : (n m : ℕ) (xs : List ℕ) → (m ≡ n → ⊥) → is_among m xs ≡ true → is_among m (without n xs) ≡ true
without_among n m [] d h = h
without_among n m (x ∷ xs) d h = by_test (x == n) refl (without_among n m xs d)
  where
    by_test : (b : Bool) → (x == n) ≡ b → (is_among m xs ≡ true → is_among m (without n xs) ≡ true) → is_among m (cond b (without n xs) (x ∷ without n xs)) ≡ true
    by_test true e ih = ih (⊎_elim
        (λ (now : (x == m) ≡ true). absurd (d (sym (eqb-true x m now) ∙ eqb-true x n e)))
        (λ (past : is_among m xs ≡ true). past)
        (or_cases _ _ h))
    by_test false e ih = ⊎_elim
        (λ (now : (x == m) ≡ true). or_left _ _ now)
        (λ (past : is_among m xs ≡ true). or_right (x == m) _ (ih past))
        (or_cases _ _ h)

pub without_not : (n : ℕ) (xs : List ℕ) → is_among n (without n xs) ≡ false
without_not n [] = refl
without_not n (x ∷ xs) = by_test (x == n) refl (without_not n xs)
  where
    by_test : (b : Bool) → (x == n) ≡ b → is_among n (without n xs) ≡ false → is_among n (cond b (without n xs) (x ∷ without n xs)) ≡ false
    by_test true e ih = ih
    by_test false e ih = or_from _ _ e ih

pub without_from : (n m : ℕ) (xs : List ℕ) → is_among m (without n xs) ≡ true → is_among m xs ≡ true
without_from n m [] h = h
without_from n m (x ∷ xs) h = by_test (x == n) (without_from n m xs) h
  where
    by_test : (b : Bool) → (is_among m (without n xs) ≡ true → is_among m xs ≡ true) → is_among m (cond b (without n xs) (x ∷ without n xs)) ≡ true → is_among m (x ∷ xs) ≡ true
    by_test true ih h = or_right _ _ (ih h)
    by_test false ih h = ⊎_elim (λ (now : (x == m) ≡ true). or_left _ _ now) (λ (past : is_among m (without n xs) ≡ true). or_right (x == m) _ (ih past)) (or_cases _ _ h)

without_le : (n : ℕ) (xs : List ℕ) → length (without n xs) ≤ length xs
without_le n [] = omega arith
without_le n (x ∷ xs) = by_test (x == n) (without_le n xs)
  where
    by_test : (b : Bool) → length (without n xs) ≤ length xs → length (cond b (without n xs) (x ∷ without n xs)) ≤ suc (length xs)
    by_test true ih = omega (arith, ih)
    by_test false ih = omega (arith, ih)

without_less : (n : ℕ) (xs : List ℕ) → is_among n xs ≡ true → length (without n xs) < length xs
without_less n [] h = absurd (false≢true h)
without_less n (x ∷ xs) h = by_test (x == n) (or_cases _ _ h) (without_le n xs) (without_less n xs)
  where
    by_test : (b : Bool) → (b ≡ true) ⊎ (is_among n xs ≡ true) → length (without n xs) ≤ length xs → (is_among n xs ≡ true → length (without n xs) < length xs) →
        length (cond b (without n xs) (x ∷ without n xs)) < suc (length xs)
    by_test true c le ih = omega (arith, le)
    by_test false (inl e) le ih = absurd (false≢true e)
    by_test false (inr m) le ih = let less = ih m in omega (arith, less)

pub without_same : (n : ℕ) (xs : List ℕ) → is_among n xs ≡ false → without n xs ≡ xs
without_same n [] h = refl
without_same n (x ∷ xs) h =
    let parts = or_parts (x == n) (is_among n xs) h in
    let out : (x == n) ≡ false = parts.0 in
    rw out (ap (λ ys. x ∷ ys) (without_same n xs parts.1))

pub without_differ : (n : ℕ) (xs : List ℕ) → all_differ xs ≡ true → all_differ (without n xs) ≡ true
without_differ n [] h = refl
without_differ n (x ∷ xs) h =
    let parts = and_parts (not (list_any (λ y. y == x) xs)) (all_differ xs) h in
    by_test (x == n) (without_differ n xs parts.1) (false_from_ne_true _ (λ e. both_ways _ (not-true _ parts.0) (without_from n x xs e)))
  where
    by_test : (b : Bool) → all_differ (without n xs) ≡ true → is_among x (without n xs) ≡ false → all_differ (cond b (without n xs) (x ∷ without n xs)) ≡ true
    by_test true ih out = ih
    by_test false ih out = and_from _ _ (not_from_false _ out) ih

-- distinct numbers lose at most one
pub without_one : (n : ℕ) (xs : List ℕ) → all_differ xs ≡ true → length xs ≤ suc (length (without n xs))
without_one n [] h = omega arith
without_one n (x ∷ xs) h =
    let parts = and_parts (not (list_any (λ y. y == x) xs)) (all_differ xs) h in
    ⊎_elim
    (λ (e : (x == n) ≡ true).
    let out : is_among n xs ≡ false = subst (λ m. is_among m xs ≡ false) (eqb-true x n e) (not-true _ parts.0) in
    let same = without_same n xs out in
    let here : without n (x ∷ xs) ≡ xs = rw e same in
    let size = ap length here in
    omega (arith, size))
    (λ (e : (x == n) ≡ false).
    let here : without n (x ∷ xs) ≡ x ∷ without n xs = rw e refl in
    let size = ap length here in
    let ih = without_one n xs parts.1 in
    omega (arith, size, ih))
    (cases_Bool (x == n))

-- Numbers that leave no place out are as many as the places.
pub covering : (k lo : ℕ) (xs : List ℕ) → ((n : ℕ) → lo ≤ n → n < lo + k → is_among n xs ≡ true) → k ≤ length xs
covering zero lo xs f = omega arith
covering (suc k) lo xs f =
    let top = f (lo + k) (omega arith) (omega arith) in
    let ih = covering k lo (without (lo + k) xs) (λ n a b. without_among (lo + k) n xs (λ e. omega (arith, e, b)) (f n a (omega (arith, b)))) in
    let less = without_less (lo + k) xs top in
    omega (arith, ih, less)

-- Distinct numbers are no more than the places.
pub packing : (k lo : ℕ) (xs : List ℕ) → all_differ xs ≡ true → ((n : ℕ) → is_among n xs ≡ true → (lo ≤ n) × (n < lo + k)) → length xs ≤ k
packing zero lo [] d f = omega arith
packing zero lo (x ∷ xs) d f =
    let at = f x (or_left _ _ (eq-eqb x x refl)) in
    let low = at.0 in
    let high = at.1 in
    absurd (omega (arith, low, high))
packing (suc k) lo xs d f =
    let ih = packing k lo (without (lo + k) xs) (without_differ (lo + k) xs d) (λ n h.
    let at = f n (without_from (lo + k) n xs h) in
    let low = at.0 in
    let high = at.1 in
    let other : (n ≡ lo + k → ⊥) = λ e. both_ways _ (without_not (lo + k) xs) (subst (λ m. is_among m (without (lo + k) xs) ≡ true) e h) in
    (low, ⊎_elim (λ (e : n ≡ lo + k). absurd (other e)) (λ (e : n ≡ lo + k → ⊥). omega (arith, high, e)) (cases_eq n (lo + k)))) in
    let one = without_one (lo + k) xs d in
    omega (arith, ih, one)
