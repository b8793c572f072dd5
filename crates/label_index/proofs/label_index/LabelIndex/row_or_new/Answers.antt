use Rattle.std.proofs.Common.{ℕ, List, ◌≡◌, ◌++◌, ◌∷◌, [], false, ap, sym, subst, ◌∙◌, arith, length}
use Rattle.std.specs.Prelude.{nat_eq}
use Rattle.std.specs.List.{list_any}
use Rattle.label_index.specs.Indexes.{IsKept}
use Rattle.label_index.specs.Lists.{by_row}
use Rattle.label_index.proofs.Kept.{few_labels, told_err, IsKept-push}
use Rattle.label_index.proofs.Rows.{absent, with_label-there, with_label-absent, row_of-absent}
use Rattle.label_index.proofs.label_index.LabelIndex.row_or_new.Goals as goal

pub returns-in-Some-clause-labels : goal.returns-in-Some-clause-labels
returns-in-Some-clause-labels c = sym (with_label-there c.args.l c.args.self.now c.in-Some.row c.in-Some.ensures)

pub push-requires-clause-absent : goal.push-requires-clause-absent
push-requires-clause-absent c = rw c.self.view_is (absent c.args.l c.args.self.now c.in_default.ensures)

pub returns-in_err-push-clause-no_memory : goal.returns-in_err-push-clause-no_memory
returns-in_err-push-clause-no_memory c = told_err c.from_residual.result (absent c.args.l c.args.self.now c.in_default.ensures)

pub invariant_of-self-2 : goal.invariant_of-self-2
invariant_of-self-2 c =
    let new : list_any (nat_eq c.args.l) (by_row c.self.inside.labels) ≡ false =
    rw c.self.view_is (absent c.args.l c.args.self.now c.in_default.ensures) in
    subst IsKept (sym c.in_ok-push.ensures.pushed)
    (IsKept-push (by_row c.self.inside.labels) c.args.l c.self.invariant new c.ranges.l.fits)

pub returns-clause-row : goal.returns-clause-row
returns-clause-row c =
    ap length (c.as_slice-row.ensures ∙ c.self.view_is) ∙ sym (row_of-absent c.args.l c.args.self.now c.in_default.ensures)

pub returns-clause-labels : goal.returns-clause-labels
returns-clause-labels c =
    c.in_ok-push.ensures.pushed
    ∙ ap (λ (labels : List ℕ). labels ++ c.args.l ∷ []) c.self.view_is
    ∙ sym (with_label-absent c.args.l c.args.self.now c.in_default.ensures)

pub overflow_cast-result : goal.overflow_cast-result
overflow_cast-result c =
    let few = few_labels (by_row c.self.inside.labels) c.self.invariant in
    let all = ap length c.as_slice-row.ensures in
    omega (arith, few, all)
