-- The rows of labels that are there, and of new ones.
use Rattle.std.proofs.Common.{ℕ, suc, ◌+◌, ◌≡◌, ◌≤◌, Bool, true, false, ◌||◌, not, cond, nat_lt, List, [], ◌∷◌, length, refl, sym, ap, ◌∙◌, arith, Some, None, position, is_some}
use Rattle.std.specs.Prelude.{nat_eq, ◌++◌}
use Rattle.std.specs.List.{list_any, position_or_len}
use Rattle.std.proofs.lemmas.Bool.Decides.{nat_tests}
use Rattle.std.proofs.lemmas.List.Sums.{prefix_len-le-length}
use Rattle.label_index.specs.Labels.{with_label, row_of}

-- a label is there exactly where its first place is one of the list
there : (p : ℕ → Bool) (labels : List ℕ) → list_any p labels ≡ nat_lt (position_or_len p labels) (length labels)
there p [] = refl
there p (x ∷ labels) = by (p x) (there p labels)
  where
    by : (b : Bool) → list_any p labels ≡ nat_lt (position_or_len p labels) (length labels)
        → (b || list_any p labels) ≡ nat_lt (cond (not b) (1 + position_or_len p labels) 0) (suc (length labels))
    by true rest = grind (arith, nat_tests)
    by false rest = grind (arith, nat_tests)

-- and exactly where its row is found
found : (p : ℕ → Bool) (labels : List ℕ) → list_any p labels ≡ is_some (position p labels)
found p labels = there p labels ∙ sym (by (nat_lt (position_or_len p labels) (length labels)))
  where
    by : (b : Bool) → is_some (cond b (Some (position_or_len p labels)) None) ≡ b
    by true = refl
    by false = refl

module _ (l : ℕ) (labels : List ℕ) where
  -- a label whose row is found changes nothing
  pub with_label-there : (row : ℕ) → Some row ≡ position (nat_eq l) labels → with_label l labels ≡ labels
  with_label-there row is = rw (found (nat_eq l) labels ∙ sym (ap is_some is)) refl

  -- one whose row is not found is not there
  pub absent : None ≡ position (nat_eq l) labels → list_any (nat_eq l) labels ≡ false
  absent none = found (nat_eq l) labels ∙ sym (ap is_some none)

  -- it comes last
  pub with_label-absent : None ≡ position (nat_eq l) labels → with_label l labels ≡ labels ++ l ∷ []
  with_label-absent none = rw (absent none) refl

  -- and gets the next row
  pub row_of-absent : None ≡ position (nat_eq l) labels → row_of l labels ≡ length labels
  row_of-absent none =
      let past : nat_lt (position_or_len (nat_eq l) labels) (length labels) ≡ false = sym (there (nat_eq l) labels) ∙ absent none in
      let within : position_or_len (nat_eq l) labels ≤ length labels = prefix_len-le-length (λ x. not (nat_eq l x)) labels in
      grind (arith, nat_tests)
