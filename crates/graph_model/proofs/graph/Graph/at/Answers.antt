-- A record up to the epoch is applied, and a later one is passed over.
use Rattle.std.proofs.Common.{◌≡◌, ◌∙◌, ◌+◌, ◌&&◌, sym, ap, drop, false, Err}
use Rattle.graph_model.specs.Graph.{after, all_fit, changes_until}
use Rattle.graph_model.proofs.Snapshots.{drop-item, changes_until-later, after-first, all_fit-first}
use Rattle.graph_model.proofs.GraphEntries.{passed_on}
use Rattle.graph_model.proofs.graph.Graph.at.Goals as goal
use Rattle.graph_model.proofs.graph.Graph.at.Goals.{then-record-e+in_ok-apply_all, else-record-e}

pub returns-in_err-apply_all-clause-unfit : goal.returns-in_err-apply_all-clause-unfit
returns-in_err-apply_all-clause-unfit c =
    let e = c.args.e in
    let items = c.as_slice-record-items.result.now in
    let rest = drop (c.loop-record.record-index + 1) items in
    let step = drop-item items c.loop-record.record-index c.record-item.result c.loop-record-test.true c.record-item.is in
    λ unfit.
    let misfit : all_fit c.record-item.result.changes c.loop-record.graph ≡ false =
    c.in_err-apply_all.ensures.unfit (ap Err (passed_on c.from_residual-in_err-apply_all.result c.in_err-apply_all.field-0.0 c.from_residual-in_err-apply_all.ensures.1 unfit)) in
    ap (λ records. all_fit (changes_until e records) c.args.base.now) (sym c.as_slice-record-items.ensures) ∙ sym c.loop-record.invariant.fit_rest
    ∙ ap (λ records. all_fit (changes_until e records) c.loop-record.graph) step ∙ all_fit-first e c.record-item.result rest c.loop-record.graph c.if-record-e.true
    ∙ ap (λ b. b && all_fit (changes_until e rest) (after c.record-item.result.changes c.loop-record.graph)) misfit

pub loop-record-preserved : goal.loop-record-preserved
loop-record-preserved c =
    let e = c.args.e in
    let items = c.as_slice-record-items.result.now in
    let rest = drop (c.loop-record.record-index + 1) items in
    let step = sym (drop-item items c.loop-record.record-index c.record-item.result c.loop-record-test.true c.record-item.is) in
    elim c.if-record-e.branch [
      | then-record-e+in_ok-apply_all w ↦
          let now = w.graph-is ∙ w.in_ok-apply_all.ensures.applied in
          record {
            after_rest = ap (after (changes_until e rest)) now ∙ sym (after-first e c.record-item.result rest c.loop-record.graph w.if-record-e.true)
                ∙ ap (λ records. after (changes_until e records) c.loop-record.graph) step ∙ c.loop-record.invariant.after_rest;
            fit_rest = ap (all_fit (changes_until e rest)) now
                ∙ ap (λ b. b && all_fit (changes_until e rest) (after c.record-item.result.changes c.loop-record.graph)) (sym w.in_ok-apply_all.ensures.fit)
                ∙ sym (all_fit-first e c.record-item.result rest c.loop-record.graph w.if-record-e.true)
                ∙ ap (λ records. all_fit (changes_until e records) c.loop-record.graph) step ∙ c.loop-record.invariant.fit_rest;
          }
      | else-record-e w ↦
          let later = sym (changes_until-later e c.record-item.result rest w.if-record-e.false) in
          record {
            after_rest = ap (after (changes_until e rest)) w.graph-is ∙ ap (λ changes. after changes c.loop-record.graph) later
                ∙ ap (λ records. after (changes_until e records) c.loop-record.graph) step ∙ c.loop-record.invariant.after_rest;
            fit_rest = ap (all_fit (changes_until e rest)) w.graph-is ∙ ap (λ changes. all_fit changes c.loop-record.graph) later
                ∙ ap (λ records. all_fit (changes_until e records) c.loop-record.graph) step ∙ c.loop-record.invariant.fit_rest;
          }
    ]
