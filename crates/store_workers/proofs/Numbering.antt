-- Lists whose members are numbered in their order, and lists of which all was written over.
use Rattle.std.proofs.Common.{◌≡◌, ℕ, zero, suc, ◌+◌, ◌<◌, List, [], ◌∷◌, ◌++◌, length, slice_index_or, take, drop, append-nil, refl, sym, ap, ◌∙◌, subst, arith}
use Rattle.store_workers.specs.Crews.{AreNumbered}

module _ {A : Type 0} (F : ℕ → A → Type 0) where
  -- one behind the others
  more-from : (n : ℕ) (xs : List A) (x : A) → AreNumbered F n xs → F (n + length xs) x → AreNumbered F n (xs ++ x ∷ [])
  more-from n [] x are is = (subst (λ (k : ℕ). F k x) (none n) is, tt)
    where
      none : (n : ℕ) → n + 0 ≡ n
      none n = omega arith
  more-from n (y ∷ xs) x are is = (are.0, more-from (suc n) xs x are.1 (subst (λ (k : ℕ). F k x) (over n (length xs)) is))
    where
      over : (n m : ℕ) → n + suc m ≡ suc n + m
      over n m = omega arith

  pub numbered-more : (xs : List A) (x : A) → AreNumbered F 0 xs → F (length xs) x → AreNumbered F 0 (xs ++ x ∷ [])
  numbered-more xs x are is = more-from 0 xs x are (subst (λ (k : ℕ). F k x) (zero-plus (length xs)) is)
    where
      zero-plus : (n : ℕ) → n ≡ 0 + n
      zero-plus n = omega arith

  -- the last one, and the others
  less-from : (n : ℕ) (xs : List A) (x : A) → AreNumbered F n (xs ++ x ∷ []) → AreNumbered F n xs × F (n + length xs) x
  less-from n [] x are = (tt, subst (λ (k : ℕ). F k x) (none n) are.0)
    where
      none : (n : ℕ) → n ≡ n + 0
      none n = omega arith
  less-from n (y ∷ xs) x are =
      let rest = less-from (suc n) xs x are.1 in ((are.0, rest.0), subst (λ (k : ℕ). F k x) (over n (length xs)) rest.1)
    where
      over : (n m : ℕ) → suc n + m ≡ n + suc m
      over n m = omega arith

  pub numbered-less : (xs : List A) (x : A) → AreNumbered F 0 (xs ++ x ∷ []) → AreNumbered F 0 xs × F (length xs) x
  numbered-less xs x are = let both = less-from 0 xs x are in (both.0, subst (λ (k : ℕ). F k x) (zero-plus (length xs)) both.1)
    where
      zero-plus : (n : ℕ) → 0 + n ≡ n
      zero-plus n = omega arith

  -- that of the one at a place
  at-from : (n : ℕ) (xs : List A) → AreNumbered F n xs → (k : ℕ) (d : A) → k < length xs → F (n + k) (slice_index_or xs k d)
  at-from n [] are k d low = absurd (omega (arith, low))
  at-from n (x ∷ xs) are zero d low = subst (λ (j : ℕ). F j x) (none n) are.0
    where
      none : (n : ℕ) → n ≡ n + 0
      none n = omega arith
  at-from n (x ∷ xs) are (suc k) d low = subst (λ (j : ℕ). F j (slice_index_or xs k d)) (over n k) (at-from (suc n) xs are.1 k d (omega (arith, low)))
    where
      over : (n k : ℕ) → suc n + k ≡ n + suc k
      over n k = omega arith

  pub numbered-at : (xs : List A) → AreNumbered F 0 xs → (k : ℕ) (d : A) → k < length xs → F k (slice_index_or xs k d)
  numbered-at xs are k d low = subst (λ (j : ℕ). F j (slice_index_or xs k d)) (zero-plus k) (at-from 0 xs are k d low)
    where
      zero-plus : (n : ℕ) → 0 + n ≡ n
      zero-plus n = omega arith

  -- another fact of each
  pub numbered-as : (G : ℕ → A → Type 0) → ((n : ℕ) (x : A) → F n x → G n x) → (n : ℕ) (xs : List A) → AreNumbered F n xs → AreNumbered G n xs
  numbered-as G by n [] are = tt
  numbered-as G by n (x ∷ xs) are = (by n x are.0, numbered-as G by (suc n) xs are.1)

  -- what became of each
  pub numbered-on : (G : ℕ → A → Type 0) (R : ℕ → A → A → Type 0) → ((n : ℕ) (x y : A) → F n x → R n x y → G n y) → (xs ys : List A) → length ys ≡ length xs → AreNumbered F 0 xs
      → ((i : ℕ) (d : A) → i < length xs → R i (slice_index_or xs i d) (slice_index_or ys i d)) → AreNumbered G 0 ys
  numbered-on G R by xs ys long are each = on-from 0 xs ys long are (λ i d low. subst (λ (j : ℕ). R j (slice_index_or xs i d) (slice_index_or ys i d)) (zero-plus i) (each i d low))
    where
      zero-plus : (n : ℕ) → n ≡ 0 + n
      zero-plus n = omega arith

      none : (n : ℕ) → n + 0 ≡ n
      none n = omega arith

      over : (n i : ℕ) → n + suc i ≡ suc n + i
      over n i = omega arith

      on-from : (n : ℕ) (xs ys : List A) → length ys ≡ length xs → AreNumbered F n xs → ((i : ℕ) (d : A) → i < length xs → R (n + i) (slice_index_or xs i d) (slice_index_or ys i d)) → AreNumbered G n ys
      on-from n [] [] long are each = tt
      on-from n [] (y ∷ ys) long are each = absurd (omega (arith, long))
      on-from n (x ∷ xs) [] long are each = absurd (omega (arith, long))
      on-from n (x ∷ xs) (y ∷ ys) long are each = (
        by n x y are.0 (subst (λ (j : ℕ). R j x y) (none n) (each 0 x (omega arith))),
        on-from (suc n) xs ys (omega (arith, long)) are.1 (λ i d low. subst (λ (j : ℕ). R j (slice_index_or xs i d) (slice_index_or ys i d)) (over n i) (each (suc i) d (omega (arith, low)))),
      )

-- a list in place of one as long
none-left : {A : Type 0} (xs ys : List A) → length xs ≡ length ys → drop (length xs) ys ≡ []
none-left [] [] long = refl
none-left [] (y ∷ ys) long = absurd (omega (arith, long))
none-left (x ∷ xs) [] long = absurd (omega (arith, long))
none-left (x ∷ xs) (y ∷ ys) long = none-left xs ys (omega (arith, long))

all-taken : {A : Type 0} (n : ℕ) (xs : List A) → n ≡ length xs → take n xs ≡ xs
all-taken zero [] long = refl
all-taken zero (x ∷ xs) long = absurd (omega (arith, long))
all-taken (suc n) [] long = absurd (omega (arith, long))
all-taken (suc n) (x ∷ xs) long = ap (λ ys. x ∷ ys) (all-taken n xs (omega (arith, long)))

pub written-over : {A : Type 0} (n : ℕ) (xs ys : List A) → length xs ≡ length ys → n ≡ length ys → take n (xs ++ drop (length xs) ys) ≡ xs
written-over {A} n xs ys long many =
    ap (λ (zs : List A). take n (xs ++ zs)) (none-left xs ys long) ∙ ap (λ (zs : List A). take n zs) (append-nil xs) ∙ all-taken n xs (many ∙ sym long)

-- inside a list the default does not matter
pub any-default : {A : Type 0} (xs : List A) (i : ℕ) (d e : A) → i < length xs → slice_index_or xs i d ≡ slice_index_or xs i e
any-default [] i d e low = absurd (omega (arith, low))
any-default (x ∷ xs) zero d e low = refl
any-default (x ∷ xs) (suc i) d e low = any-default xs i d e (omega (arith, low))
