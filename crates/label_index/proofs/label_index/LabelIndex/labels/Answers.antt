use Rattle.std.proofs.Common.{ℕ, ◌≡◌, List, length, ap, subst, sym, ◌∙◌, arith}
use Rattle.std.specs.Prelude.{nat_eq}
use Rattle.std.specs.List.{IsDistinct}
use Rattle.std.specs.List.Sorted.{IsStrictlyIncreasing}
use Rattle.std.proofs.lemmas.List.Sorted.{IsNonDecreasingBy-from_sort}
use Rattle.std.proofs.lemmas.Map.Keys.{IsStrictlyIncreasing-from_distinct, IsDistinct-IsPermutation}
use Rattle.std.specs.Cmp.{nat_eq_equiv}
use Rattle.label_index.specs.Lists.{by_row}
use Rattle.label_index.proofs.Kept.{few_labels}
use Rattle.label_index.proofs.label_index.LabelIndex.labels.Goals as goal

pub returns-in_err-labels-clause-few : goal.returns-in_err-labels-clause-few
returns-in_err-labels-clause-few c =
    let few = few_labels (by_row c.self.inside.labels) c.self.invariant in
    let v = ap length c.self.view_is in
    omega (arith, few, v)

pub returns-clause-few : goal.returns-clause-few
returns-clause-few c =
    let few = few_labels (by_row c.self.inside.labels) c.self.invariant in
    let v = ap length c.self.view_is in
    omega (arith, few, v)

pub returns-clause-rising : goal.returns-clause-rising
returns-clause-rising c =
    let all : c.in_ok-labels.labels.items ≡ by_row c.self.inside.labels = c.in_ok-labels.ensures.items ∙ c.as_slice.ensures in
    let once : IsDistinct nat_eq c.sort_unstable.new.self.items =
    IsDistinct-IsPermutation nat_eq nat_eq_equiv.symm c.in_ok-labels.labels.items c.sort_unstable.new.self.items c.sort_unstable.ensures.permutation (subst (λ (xs : List ℕ). IsDistinct nat_eq xs) (sym all) c.self.invariant.once) in
    subst IsStrictlyIncreasing (sym c.from_vec.ensures)
    (IsStrictlyIncreasing-from_distinct c.sort_unstable.new.self.items (IsNonDecreasingBy-from_sort (λ (x : ℕ). x) c.sort_unstable.new.self.items c.sort_unstable.ensures.sorted) once)
