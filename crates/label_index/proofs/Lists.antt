-- Lists in which each label stands once.
use Rattle.std.proofs.Common.{ℕ, ◌≡◌, false, ◌||◌, List, [], ◌∷◌, ◌++◌, refl, sym, ap, subst, ◌∙◌}
use Rattle.std.specs.Prelude.{nat_eq}
use Rattle.std.specs.Cmp.{nat_eq_equiv}
use Rattle.std.specs.List.{list_any, AllByRecursion, IsDistinct}
use Rattle.std.proofs.lemmas.List.{append-nil, append_assoc}
use Rattle.indexmap.specs.IndexSet.{insert_key, insert_all}

-- what holds of all labels of two lists and of one between holds of that one
at_seam : (P : ℕ → Type 0) (before after : List ℕ) (l : ℕ) → AllByRecursion P (before ++ l ∷ after) → P l
at_seam P [] after l all = all.0
at_seam P (x ∷ before) after l all = at_seam P before after l all.1

-- a label does not stand among those before it
pub absent_before : (before after : List ℕ) (l : ℕ) → IsDistinct nat_eq (before ++ l ∷ after) → list_any (nat_eq l) before ≡ false
unfolding IsDistinct
absent_before [] after l once = refl
absent_before (x ∷ before) after l once =
    ap (λ b. b || list_any (nat_eq l) before) (nat_eq_equiv.symm l x ∙ at_seam (λ y. nat_eq x y ≡ false) before after l once.0)
    ∙ absent_before before after l once.1

-- labels that are put into a set one after another come behind those of the set, in their order
pub insert_all-distinct : (before labels : List ℕ) → IsDistinct nat_eq (before ++ labels) → insert_all nat_eq before labels ≡ before ++ labels
insert_all-distinct before [] once = sym (append-nil before)
insert_all-distinct before (l ∷ labels) once =
    let behind : insert_key nat_eq before l ≡ before ++ l ∷ [] = rw (absent_before before labels l once) refl in
    ap (λ (keys : List ℕ). insert_all nat_eq keys labels) behind
    ∙ insert_all-distinct (before ++ l ∷ []) labels (subst (λ (all : List ℕ). IsDistinct nat_eq all) (sym (append_assoc before (l ∷ []) labels)) once)
    ∙ append_assoc before (l ∷ []) labels

-- a label that is not there comes last
pub insert_key-absent : (l : ℕ) (labels : List ℕ) → list_any (nat_eq l) labels ≡ false → insert_key nat_eq labels l ≡ labels ++ l ∷ []
insert_key-absent l labels absent = rw absent refl
