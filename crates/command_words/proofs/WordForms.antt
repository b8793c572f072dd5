-- The forms of a word: `--`, the option `--at` alone or with a value, another flag, or no flag.
use Rattle.std.proofs.Common.{◌≡◌, ◌∙◌, ◌⊎◌, inl, inr, ℕ, zero, suc, true, false, List, [], ◌∷◌, ◌++◌, Option, Some, None, refl, sym, ap, subst, arith, eqb-true, eq-eqb}
use Rattle.std.specs.Prelude.{◌==◌, codes}
use Rattle.std.specs.Str.{bytes_eq}
use Rattle.std.proofs.lemmas.Bool.{cases_Bool}
use Rattle.std.proofs.lemmas.Bool.{false≢true}
use Rattle.std.proofs.lemmas.Slice.Eq.{bytes_eq-Decides}
use Rattle.clap.specs.Lexer.{long_of, short_of, name_and_value, has_byte}
use Rattle.clap.proofs.CutLemmas.{Lacks, list_any-Lacks, list_any-at, before_first-Lacks, before_first-at, after_first-at}

pub data Form (x : List ℕ) : Type 0 where
  dashes : x ≡ 45 ∷ 45 ∷ [] → Form x
  alone : x ≡ codes "--at" → Form x
  with_value : (v : List ℕ) → x ≡ codes "--at=" ++ v → Form x
  unknown : (n : List ℕ) (v : Option (List ℕ)) → bytes_eq x (45 ∷ 45 ∷ []) ≡ false → long_of x ≡ Some (n, v) → bytes_eq (codes "at") n ≡ false → Form x
  bundle : (c : ℕ) (cs : List ℕ) → bytes_eq x (45 ∷ 45 ∷ []) ≡ false → long_of x ≡ None → short_of x ≡ Some (c ∷ cs) → Form x
  plain : bytes_eq x (45 ∷ 45 ∷ []) ≡ false → long_of x ≡ None → short_of x ≡ None → Form x

-- ---- a name is cut at its first `=`

Lacks-nil : Lacks 61 []
Lacks-nil i lt = absurd (omega arith)

Lacks-cons : (x : ℕ) (xs : List ℕ) → (x == 61) ≡ false → Lacks 61 xs → Lacks 61 (x ∷ xs)
Lacks-cons x xs other h zero lt = λ e. false≢true (sym other ∙ eq-eqb x 61 e)
Lacks-cons x xs other h (suc i) lt = h i (omega arith)

-- the name without `=`, or the name and what follows its first `=`
pub cut : (xs : List ℕ) → (Lacks 61 xs) ⊎ ((name : List ℕ) × (value : List ℕ) × (xs ≡ name ++ 61 ∷ value) × Lacks 61 name)
cut [] = inl Lacks-nil
cut (x ∷ xs) =
    elim (cases_Bool (x == 61)) [
      | inl same ↦ inr ([], xs, ap (λ y. y ∷ xs) (eqb-true x 61 same), Lacks-nil)
      | inr other ↦ elim (cut xs) [
        | inl h ↦ inl (Lacks-cons x xs other h)
        | inr p ↦ inr (x ∷ p.0, p.1, ap (λ ys. x ∷ ys) p.2, Lacks-cons x p.0 other p.3)
      ]
    ]

pub whole : (xs : List ℕ) → Lacks 61 xs → name_and_value xs ≡ (xs, None)
whole xs h = let none : has_byte 61 xs ≡ false = list_any-Lacks 61 xs h in rw (none, before_first-Lacks 61 xs h) refl

pub parted : (name value : List ℕ) → Lacks 61 name → name_and_value (name ++ 61 ∷ value) ≡ (name, Some value)
parted name value h =
    let some : has_byte 61 (name ++ 61 ∷ value) ≡ true = list_any-at 61 name value in
    rw (some, before_first-at 61 name value h, after_first-at 61 name value h) refl

-- ---- the form of each word

is_at : (n : List ℕ) → bytes_eq (codes "at") n ≡ true → codes "at" ≡ n
is_at n h = (bytes_eq-Decides (codes "at") n).0 h

-- a word that begins with `--` and goes on
long_form : (d : ℕ) (ds : List ℕ) → Form (45 ∷ 45 ∷ d ∷ ds)
long_form d ds =
    elim (cut (d ∷ ds)) [
      | inl h ↦
          let long : long_of (45 ∷ 45 ∷ d ∷ ds) ≡ Some (d ∷ ds, None) = ap Some (whole (d ∷ ds) h) in
          elim (cases_Bool (bytes_eq (codes "at") (d ∷ ds))) [
            | inl same ↦ alone (ap (λ n. 45 ∷ 45 ∷ n) (sym (is_at (d ∷ ds) same)))
            | inr other ↦ unknown (d ∷ ds) None refl long other
          ]
      | inr p ↦
          let long : long_of (45 ∷ 45 ∷ d ∷ ds) ≡ Some (p.0, Some p.1) =
          ap Some (ap name_and_value p.2 ∙ parted p.0 p.1 p.3) in
          elim (cases_Bool (bytes_eq (codes "at") p.0)) [
            | inl same ↦
                with_value p.1 (ap (λ xs. 45 ∷ 45 ∷ xs) (p.2 ∙ ap (λ n. n ++ 61 ∷ p.1) (sym (is_at p.0 same))))
            | inr other ↦ unknown p.0 (Some p.1) refl long other
          ]
    ]

twice_form : (ds : List ℕ) → Form (45 ∷ 45 ∷ ds)
twice_form [] = dashes refl
twice_form (d ∷ ds) = long_form d ds

-- a word that begins with `-`
once_form : (cs : List ℕ) → Form (45 ∷ cs)
once_form [] = plain refl refl refl
once_form (c ∷ cs) =
    elim (cases_Bool (c == 45)) [
      | inl same ↦ let P : ℕ → Type 0 = λ b. Form (45 ∷ b ∷ cs) in subst P (sym (eqb-true c 45 same)) (twice_form cs)
      | inr other ↦ bundle c cs (rw other refl) (rw other refl) (rw other refl)
    ]

pub form_of : (x : List ℕ) → Form x
form_of [] = plain refl refl refl
form_of (b ∷ bs) =
    elim (cases_Bool (b == 45)) [
      | inl same ↦ let P : ℕ → Type 0 = λ d. Form (d ∷ bs) in subst P (sym (eqb-true b 45 same)) (once_form bs)
      | inr other ↦ plain (rw other refl) (rw other refl) (rw other refl)
    ]
