-- The forms of a word behind `run`: `--`, an option alone or with a value, another flag, or no flag.
use Rattle.std.proofs.Common.{◌≡◌, ◌∙◌, ◌⊎◌, inl, inr, ℕ, false, List, [], ◌∷◌, ◌++◌, Option, Some, None, refl, sym, ap, subst, eqb-true}
use Rattle.std.specs.Prelude.{◌==◌, codes}
use Rattle.std.specs.Str.{bytes_eq}
use Rattle.std.proofs.lemmas.Bool.{cases_Bool}
use Rattle.std.proofs.lemmas.Slice.Eq.{bytes_eq-Decides}
use Rattle.clap.specs.Lexer.{long_of, short_of, name_and_value}
use Rattle.command_words.proofs.WordForms.{cut, whole, parted}

-- an option of `run`
pub data Name : Type 0 where
  Workers : Name
  Shards : Name

abbrev pub name_of : Name → List ℕ
name_of Workers = codes "workers"
name_of Shards = codes "shards"

-- its word, alone and with a value
abbrev pub flag : Name → List ℕ
flag n = 45 ∷ 45 ∷ name_of n

abbrev pub flag_value : Name → List ℕ → List ℕ
flag_value n v = 45 ∷ 45 ∷ (name_of n ++ 61 ∷ v)

pub data Form (x : List ℕ) : Type 0 where
  dashes : x ≡ 45 ∷ 45 ∷ [] → Form x
  alone : (n : Name) → x ≡ flag n → Form x
  with_value : (n : Name) (v : List ℕ) → x ≡ flag_value n v → Form x
  unknown : (n : List ℕ) (v : Option (List ℕ)) → bytes_eq x (45 ∷ 45 ∷ []) ≡ false → long_of x ≡ Some (n, v) → bytes_eq (codes "workers") n ≡ false → bytes_eq (codes "shards") n ≡ false → Form x
  bundle : (c : ℕ) (cs : List ℕ) → bytes_eq x (45 ∷ 45 ∷ []) ≡ false → long_of x ≡ None → short_of x ≡ Some (c ∷ cs) → Form x
  plain : bytes_eq x (45 ∷ 45 ∷ []) ≡ false → long_of x ≡ None → short_of x ≡ None → Form x

-- a text is one of the names, or neither
abbrev pub Named : List ℕ → Type 0
Named t = ((n : Name) × (name_of n ≡ t)) ⊎ ((bytes_eq (codes "workers") t ≡ false) × (bytes_eq (codes "shards") t ≡ false))

named : (t : List ℕ) → Named t
named t =
    elim (cases_Bool (bytes_eq (codes "workers") t)) [
      | inl is ↦ inl (Workers, (bytes_eq-Decides (codes "workers") t).0 is)
      | inr other ↦ elim (cases_Bool (bytes_eq (codes "shards") t)) [
        | inl is ↦ inl (Shards, (bytes_eq-Decides (codes "shards") t).0 is)
        | inr too ↦ inr (other, too)
      ]
    ]

-- a word that begins with `--` and goes on
long_form : (d : ℕ) (ds : List ℕ) → Form (45 ∷ 45 ∷ d ∷ ds)
long_form d ds =
    elim (cut (d ∷ ds)) [
      | inl h ↦
          let long : long_of (45 ∷ 45 ∷ d ∷ ds) ≡ Some (d ∷ ds, None) = ap Some (whole (d ∷ ds) h) in
          elim (named (d ∷ ds)) [
            | inl is ↦ alone is.0 (ap (λ n. 45 ∷ 45 ∷ n) (sym is.1))
            | inr other ↦ unknown (d ∷ ds) None refl long other.0 other.1
          ]
      | inr p ↦
          let long : long_of (45 ∷ 45 ∷ d ∷ ds) ≡ Some (p.0, Some p.1) =
          ap Some (ap name_and_value p.2 ∙ parted p.0 p.1 p.3) in
          elim (named p.0) [
            | inl is ↦ with_value is.0 p.1 (ap (λ xs. 45 ∷ 45 ∷ xs) (p.2 ∙ ap (λ n. n ++ 61 ∷ p.1) (sym is.1)))
            | inr other ↦ unknown p.0 (Some p.1) refl long other.0 other.1
          ]
    ]

twice_form : (ds : List ℕ) → Form (45 ∷ 45 ∷ ds)
twice_form [] = dashes refl
twice_form (d ∷ ds) = long_form d ds

-- a word that begins with `-`
once_form : (cs : List ℕ) → Form (45 ∷ cs)
once_form [] = plain refl refl refl
once_form (c ∷ cs) =
    elim (cases_Bool (c == 45)) [
      | inl same ↦ let P : ℕ → Type 0 = λ b. Form (45 ∷ b ∷ cs) in subst P (sym (eqb-true c 45 same)) (twice_form cs)
      | inr other ↦ bundle c cs (rw other refl) (rw other refl) (rw other refl)
    ]

pub form_of : (x : List ℕ) → Form x
form_of [] = plain refl refl refl
form_of (b ∷ bs) =
    elim (cases_Bool (b == 45)) [
      | inl same ↦ let P : ℕ → Type 0 = λ d. Form (d ∷ bs) in subst P (sym (eqb-true b 45 same)) (once_form bs)
      | inr other ↦ plain (rw other refl) (rw other refl) (rw other refl)
    ]
