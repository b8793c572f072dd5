use Rattle.std.proofs.Common.{◌≡◌, ℕ, suc, ◌-◌, List, [], ◌∷◌, length, sym, ap, ◌∙◌, arith, refl, false}
use Rattle.std.specs.Prelude.{◌==◌, Some, None}
use Rattle.std.specs.List.{slice_get}
use Rattle.vertex_rows.specs.Owned.{ends_in}
use Rattle.vertex_rows.proofs.touched.ends_in.Goals as goal

-- what the last of the numbers is
last_of_two : (m k : ℕ) (xs : List ℕ) → slice_get (m ∷ k ∷ xs) (length (m ∷ k ∷ xs) - 1) ≡ slice_get (k ∷ xs) (length (k ∷ xs) - 1)
last_of_two m k xs =
    let next : length (m ∷ k ∷ xs) - 1 ≡ suc (length (k ∷ xs) - 1) = omega arith in
    ap (slice_get (m ∷ k ∷ xs)) next

ends_in-some : (n m : ℕ) (xs : List ℕ) → Some m ≡ slice_get xs (length xs - 1) → ends_in n xs ≡ (m == n)
ends_in-some n m [] last = absurd (cc)
ends_in-some n m (k ∷ []) last = let same : m ≡ k = cc in ap (λ j. j == n) (sym same)
ends_in-some n m (k ∷ j ∷ xs) last = ends_in-some n m (j ∷ xs) (last ∙ last_of_two k j xs)

ends_in-none : (n : ℕ) (xs : List ℕ) → None ≡ slice_get xs (length xs - 1) → ends_in n xs ≡ false
ends_in-none n [] last = refl
ends_in-none n (k ∷ []) last = absurd (cc)
ends_in-none n (k ∷ j ∷ xs) last = ends_in-none n (j ∷ xs) (last ∙ last_of_two k j xs)

pub returns-in-Some : goal.returns-in-Some
returns-in-Some c =
    sym (ends_in-some c.args.n c.in-Some.last.now c.args.touched.now.items (c.in-Some.ensures.value ∙ ap (λ (xs : List ℕ). slice_get xs (length xs - 1)) c.deref.ensures.value))

pub returns-in-None : goal.returns-in-None
returns-in-None c =
    sym (ends_in-none c.args.n c.args.touched.now.items (c.in-None.ensures.value ∙ ap (λ (xs : List ℕ). slice_get xs (length xs - 1)) c.deref.ensures.value))
