-- The map tells whether the vertex of each change is there after the changes before it.
use Rattle.std.proofs.Common.{◌≡◌, ◌∙◌, sym, ap, true, false, take, is_some, unwrap_or, cond}
use Rattle.std.specs.Prelude.{◌==◌}
use Rattle.std.specs.Ordering.{nat_cmp}
use Rattle.std.specs.BTreeMap.{get}
use Rattle.graph_model.specs.Change.{vertex_of}
use Rattle.graph_model.specs.Graph.{vertex_at, fits, after, all_fit}
use Rattle.graph_model.specs.Applying.{fits_where, leaves_vertex}
use Rattle.graph_model.proofs.Fitting.{fits_at-where, all_fit-misfit, all_fit-more, after-more, is_some-apply, noted}
use Rattle.graph_model.proofs.graph.Graph.accepts.Goals as goal

pub returns-then-not-fits_where : goal.returns-then-not-fits_where
returns-then-not-fits_where c =
    let items = c.as_slice-change-items.result.now in
    let change = c.change-item.result in
    let before = after (take c.loop-change.change-index items) c.args.self.now in
    let here = c.has_after.ensures ∙ c.loop-change.invariant.there c.vertex-v.result ∙ ap (λ n. is_some (vertex_at n before)) c.vertex-v.ensures in
    let misfit : fits change before ≡ false = fits_at-where change (vertex_at (vertex_of change) before) ∙ ap (fits_where change) (sym here) ∙ sym c.if-not-fits_where.ensures in
    sym (ap (λ changes. all_fit changes c.args.self.now) (sym c.as_slice-change-items.ensures) ∙ all_fit-misfit items c.loop-change.change-index change c.args.self.now c.loop-change-test.true c.change-item.is misfit)

pub loop-change-preserved : goal.loop-change-preserved
loop-change-preserved c =
    let items = c.as_slice-change-items.result.now in
    let change = c.change-item.result in
    let before = after (take c.loop-change.change-index items) c.args.self.now in
    let here = c.has_after.ensures ∙ c.loop-change.invariant.there c.vertex-v.result ∙ ap (λ n. is_some (vertex_at n before)) c.vertex-v.ensures in
    let fit : fits change before ≡ true = fits_at-where change (vertex_at (vertex_of change) before) ∙ ap (fits_where change) (sym here) ∙ sym c.if-not-fits_where.ensures in
    record {
      fit = all_fit-more items c.loop-change.change-index change c.args.self.now c.loop-change-test.true c.change-item.is c.loop-change.invariant.fit fit;
      there = λ q.
          let old = is_some (vertex_at q c.args.self.now) in
          ap (λ o. unwrap_or o old) (c.in_ok-insert.ensures.updates.0 q)
          ∙ noted c.vertex-v.result (vertex_of change) q c.leaves_vertex.result old (get nat_cmp c.loop-change.touched q) c.vertex-v.ensures
          ∙ ap (λ left. cond (vertex_of change == q) left (unwrap_or (get nat_cmp c.loop-change.touched q) old)) c.leaves_vertex.ensures
          ∙ ap (λ there. cond (vertex_of change == q) (leaves_vertex change) there) (c.loop-change.invariant.there q)
          ∙ sym (ap (λ g. is_some (vertex_at q g)) (after-more items c.loop-change.change-index change c.args.self.now c.loop-change-test.true c.change-item.is) ∙ is_some-apply q change before fit);
    }
