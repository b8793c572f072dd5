-- A change of another vertex leaves this one, and one of this vertex does here what it does in each such graph.
use Rattle.std.proofs.Common.{◌≡◌, ◌∙◌, sym, ap, false, take, Err}
use Rattle.std.proofs.lemmas.Bool.{ne_eqb}
use Rattle.graph_model.specs.Change.{vertex_of}
use Rattle.graph_model.specs.Graph.{vertex_at, fits, fits_at, after, all_fit}
use Rattle.graph_model.proofs.GraphEntries.{passed_on}
use Rattle.graph_model.proofs.Vertices.{apply-same}
use Rattle.graph_model.proofs.Fitting.{all_fit-misfit, after-more, vertex_at-other}
use Rattle.graph_model.proofs.graph.Graph.apply_about.Goals as goal
use Rattle.graph_model.proofs.graph.Graph.apply_about.Goals.{then-vertex-v+in_ok-apply, else-vertex-v}

pub returns-in_err-apply-clause-unfit : goal.returns-in_err-apply-clause-unfit
returns-in_err-apply-clause-unfit c = λ unfit g same.
    let items = c.as_slice-change-items.result.now in
    let change = c.change-item.result in
    let before = after (take c.loop-change.change-index items) g in
    let about : vertex_of change ≡ c.args.v = sym c.vertex.ensures ∙ c.if-vertex-v.true in
    let refused : fits change c.loop-change.self ≡ false = c.in_err-apply.ensures.unfit (ap Err (passed_on c.from_residual.result c.in_err-apply.field-0.0 c.from_residual.ensures.1 unfit)) in
    let misfit : fits change before ≡ false =
    ap (fits_at change) (ap (λ n. vertex_at n before) about ∙ c.loop-change.invariant g same ∙ ap (λ n. vertex_at n c.loop-change.self) (sym about)) ∙ refused in
    ap (λ changes. all_fit changes g) (sym c.as_slice-change-items.ensures) ∙ all_fit-misfit items c.loop-change.change-index change g c.loop-change-test.true c.change-item.is misfit

pub loop-change-preserved : goal.loop-change-preserved
loop-change-preserved c = λ g same.
    let items = c.as_slice-change-items.result.now in
    let change = c.change-item.result in
    let before = after (take c.loop-change.change-index items) g in
    let here = c.loop-change.invariant g same in
    let more = ap (vertex_at c.args.v) (after-more items c.loop-change.change-index change g c.loop-change-test.true c.change-item.is) in
    elim c.if-vertex-v.branch [
      | then-vertex-v+in_ok-apply w ↦ more ∙ apply-same c.args.v change before c.loop-change.self here ∙ ap (vertex_at c.args.v) (sym (w.self-is ∙ w.in_ok-apply.ensures.applied))
      | else-vertex-v w ↦ more ∙ vertex_at-other c.args.v change before (ne_eqb _ _ (λ e. w.if-vertex-v.false (c.vertex.ensures ∙ e))) ∙ here ∙ ap (vertex_at c.args.v) (sym w.self-is)
    ]
