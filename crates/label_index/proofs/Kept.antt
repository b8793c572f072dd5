-- What an index of labels keeps.
use Rattle.std.proofs.Common.{ℕ, ◌≡◌, ◌<◌, ◌≤◌, Bool, true, false, ◌||◌, List, [], ◌∷◌, ◌++◌, length, arith, sym, ◌∙◌, subst}
use Rattle.std.specs.Prelude.{nat_eq, Result, Ok, Err, OnErr}
use Rattle.std.specs.Cmp.{nat_eq_equiv}
use Rattle.std.specs.List.{list_any, IsDistinct}
use Rattle.std.proofs.lemmas.Bool.Decides.{nat_tests}
use Rattle.std.proofs.lemmas.List.Folds.{list_any-append}
use Rattle.std.proofs.lemmas.Map.Keys.{IsDistinct-push}
use Rattle.std.proofs.lemmas.Map.Steps.{length-le_from_distinct_below}
use Rattle.label_index.specs.Indexes.{IsKept}

-- there are at most 65536 labels
pub few_labels : (labels : List ℕ) → IsKept labels → length labels ≤ 65536
few_labels labels kept = length-le_from_distinct_below labels 65536 kept.once kept.label

-- no label
pub IsKept-nil : (labels : List ℕ) → labels ≡ [] → IsKept labels
unfolding IsDistinct
IsKept-nil labels nil = subst IsKept (sym nil) (record { once = tt; label = λ q there. cc })

-- one more label, which was not there
pub IsKept-push : (labels : List ℕ) (l : ℕ) → IsKept labels → list_any (nat_eq l) labels ≡ false → l < 65536 → IsKept (labels ++ l ∷ [])
IsKept-push labels l kept absent fits = record {
  once = IsDistinct-push nat_eq_equiv labels l kept.once absent;
  label = λ q there. by q (list_any (nat_eq q) labels) (kept.label q) (sym (list_any-append (nat_eq q) labels (l ∷ [])) ∙ there);
}
  where
    by : (q : ℕ) (b : Bool) → (b ≡ true → q < 65536) → (b || (nat_eq q l || false)) ≡ true → q < 65536
    by q true label there = label there
    by q false label there = grind (arith, nat_tests)

-- what holds whatever the result is
pub told_err : {T E P : Type 0} (r : Result T E) → P → OnErr r P
told_err (Ok x) p = tt
told_err (Err e) p = p
