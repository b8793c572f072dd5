-- A function that is changed at one place, and names that are the same.
use Rattle.core_states.specs.declared.event.Reach.TheVariants as reach
use Rattle.std.proofs.Common.{◌≡◌, ◌≢◌, ℕ, Bool, true, false, List, [], ◌∷◌, refl, sym, ap, ◌∙◌, subst, ◌⊎◌, inl, inr, ⊎_elim, Some}
use Rattle.std.proofs.lemmas.Bool.{cases_eq, eq-eqb, eqb-true, ne_eqb, and_parts, and_from, false≢true}
use Rattle.std.specs.Prelude.{◌==◌}
use Rattle.core_states.specs.Names.{Name, same_pass, same_name, set_at, set_name}

pub set_at_here : {A : Type 0} (f : ℕ → A) (k : ℕ) (x : A) (j : ℕ) → j ≡ k → set_at f k x j ≡ x
set_at_here f k x j e = rw (eq-eqb j k e) refl

pub set_at_there : {A : Type 0} (f : ℕ → A) (k : ℕ) (x : A) (j : ℕ) → j ≢ k → set_at f k x j ≡ f j
set_at_there f k x j n = rw (ne_eqb j k n) refl

same_pass_refl : (xs : List ℕ) → same_pass xs xs ≡ true
same_pass_refl [] = refl
same_pass_refl (x ∷ xs) = and_from (x == x) (same_pass xs xs) (eq-eqb x x refl) (same_pass_refl xs)

same_pass_is : (xs ys : List ℕ) → same_pass xs ys ≡ true → xs ≡ ys
same_pass_is [] [] e = refl
same_pass_is [] (y ∷ ys) e = absurd (false≢true e)
same_pass_is (x ∷ xs) [] e = absurd (false≢true e)
same_pass_is (x ∷ xs) (y ∷ ys) e =
    let both = and_parts (x == y) (same_pass xs ys) e in
    λ i. eqb-true x y both.0 i ∷ same_pass_is xs ys both.1 i

-- a name is the same as itself, and as no other
same_name_refl : (i : Name) → same_name i i ≡ true
same_name_refl i = and_from (i.index == i.index) (same_pass i.pass i.pass) (eq-eqb i.index i.index refl) (same_pass_refl i.pass)

pub same_name_is : (i j : Name) → same_name i j ≡ true → i ≡ j
same_name_is i j e =
    let both = and_parts (i.index == j.index) (same_pass i.pass j.pass) e in
    λ k. record { pass = same_pass_is i.pass j.pass both.1 k; index = eqb-true i.index j.index both.0 k }

pub same_name_true : (i j : Name) → i ≡ j → same_name i j ≡ true
same_name_true i j e = ap (λ k. same_name i k) (sym e) ∙ same_name_refl i

pub cases_name : (i j : Name) → (i ≡ j) ⊎ (i ≢ j)
cases_name i j = by_test (same_name i j) refl
  where
    by_test : (b : Bool) → same_name i j ≡ b → (i ≡ j) ⊎ (i ≢ j)
    by_test true e = inl (same_name_is i j e)
    by_test false e = inr (λ same. false≢true (sym e ∙ same_name_true i j same))

pub not_same : (i j : Name) → i ≢ j → same_name i j ≡ false
not_same i j n = by_test (same_name i j) refl
  where
    by_test : (b : Bool) → same_name i j ≡ b → same_name i j ≡ false
    by_test true e = absurd (n (same_name_is i j e))
    by_test false e = e

pub set_name_here : {A : Type 0} (f : Name → A) (k : Name) (x : A) (j : Name) → j ≡ k → set_name f k x j ≡ x
set_name_here f k x j e = rw (same_name_true j k e) refl

pub set_name_there : {A : Type 0} (f : Name → A) (k : Name) (x : A) (j : Name) → j ≢ k → set_name f k x j ≡ f j
set_name_there f k x j n = rw (not_same j k n) refl

-- a family that holds at k of x, and elsewhere of f, holds of f with x at k
pub at_each : {A : Type 0} (P : ℕ → A → Type 0) (f : ℕ → A) (k : ℕ) (x : A) → P k x → ((j : ℕ) → j ≢ k → P j (f j)) → (j : ℕ) → P j (set_at f k x j)
at_each P f k x here there j = ⊎_elim
    (λ (e : j ≡ k). rw (eq-eqb j k e) (subst (λ (m : ℕ). P m x) (sym e) here))
    (λ (n : j ≢ k). rw (ne_eqb j k n) (there j n))
    (cases_eq j k)

pub name_each : {A : Type 0} (P : Name → A → Type 0) (f : Name → A) (k : Name) (x : A) → P k x → ((j : Name) → j ≢ k → P j (f j)) → (j : Name) → P j (set_name f k x j)
name_each P f k x here there j = ⊎_elim
    (λ (e : j ≡ k). rw (same_name_true j k e) (subst (λ (m : Name). P m x) (sym e) here))
    (λ (n : j ≢ k). rw (not_same j k n) (there j n))
    (cases_name j k)

pub some_is : {A : Type 0} (x y : A) → Some x ≡ Some y → x ≡ y
some_is x y e = (cc)

-- an event works on one row
pub row_is : (w v : ℕ) → reach.Row w ≡ reach.Row v → w ≡ v
row_is w v e = (cc)
