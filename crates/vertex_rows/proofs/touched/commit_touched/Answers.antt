use Rattle.std.proofs.Common.{◌≡◌, ℕ, ◌<◌, List, length, get_or, sym, subst, ◌∙◌, arith}
use Rattle.std.specs.Prelude.{Contains}
use Rattle.std.proofs.lemmas.List.{length-set}
use Rattle.std.proofs.lemmas.List.Elements.{Contains-push}
use Rattle.edge_log.specs.Contents.{HasTailOf}
use Rattle.core_rows.specs.Rows.{committed_log}
use Rattle.vertex_rows.specs.Owned.{IsOwned, IsAllPast}
use Rattle.vertex_rows.proofs.Contents.{committed-past, committed-same}
use Rattle.vertex_rows.proofs.Logs.{footprints-set, logs-set, contents-set, owned-set, keeps-logs-then, keeps-olds-then}
use Rattle.vertex_rows.proofs.touched.commit_touched.Goals as goal
use Rattle.vertex_rows.proofs.touched.commit_touched.Goals.{In-Some, After-at_mut}
use Rattle.vertex_rows.proofs.touched.commit_touched.Given.{Over}

-- the number that was touched last is one of a log
within : (g : Over) (c : In-Some g) → c.in-Some.n < length c.loop-n.logs.items
within g c =
    c.loop-n.invariant.owned.within c.in-Some.n (subst (λ (xs : List ℕ). Contains xs c.in-Some.n) (sym c.in-Some.ensures.items) (Contains-push c.pop.new.self.items c.in-Some.n))

pub at_mut-requires : goal.at_mut-requires
at_mut-requires g c = omega (arith, within g (goal.at.at_mut-requires g c).In-Some)

pub commit_log-requires-clause-stands : goal.commit_log-requires-clause-stands
commit_log-requires-clause-stands g c =
    subst (λ log. g.L.EdgeLog.stands log c.loop-n.room) (sym c.at_mut.ensures.value)
    ((c.loop-n.invariant.stand c.requires.stand.0 c.requires.stand.1).stand c.in-Some.n c.at_mut.result.now (within g (goal.at.commit_log-requires-clause-stands g c).In-Some))

pub commit_log-requires-clause-tail : goal.commit_log-requires-clause-tail
commit_log-requires-clause-tail g c =
    subst (λ log. HasTailOf c.args.tid (g.L.EdgeLog.content log c.loop-n.room)) (sym c.at_mut.ensures.value)
    (c.loop-n.invariant.owned.owned c.in-Some.n c.at_mut.result.now (within g (goal.at.commit_log-requires-clause-tail g c).In-Some)).tail

pub loop-n-preserved : goal.loop-n-preserved
loop-n-preserved g c =
    let m = g.L.EdgeLog in
    let logs = c.loop-n.logs.items in
    let old = c.loop-n.room in
    let new = c.commit_log.new.room in
    let n = c.in-Some.n in
    let x = c.commit_log.new.log in
    let y = c.at_mut.result.now in
    let t = c.args.tid in
    let e = c.args.epoch in
    let lt : n < length logs = within g (goal.at.loop-n-preserved g c).In-Some in
    let at = c.at_mut.ensures.value in
    let inv = c.loop-n.invariant in
    let are = inv.stand c.requires.stand.0 c.requires.stand.1 in
    let keeps = c.commit_log.ensures.keeps_logs in
    let owned : IsOwned t e (m.content y old) = subst (λ log. IsOwned t e (m.content log old)) (sym at) (inv.owned.owned n y lt) in
    let past : IsAllPast e (m.content x new) = subst (IsAllPast e) (sym c.commit_log.ensures.committed) (committed-past t e (m.content y old) owned) in
    let same : committed_log t e (m.content x new) ≡ committed_log t e (m.content y old) = committed-same t e e (m.content x new) past ∙ c.commit_log.ensures.committed in
    record {
      stand = λ most first. logs-set m.stands m.footprint m.content m.spare m.limit logs old new n x y (inv.stand most first) lt at c.commit_log.ensures.stands c.commit_log.ensures.limit c.commit_log.ensures.blocks.0 keeps;
      count = length-set logs n x ∙ inv.count;
      owned = owned-set m.stands m.footprint m.content m.spare m.limit t e c.loop-n.touched.items c.pop.new.self.items logs old new n x y are lt at keeps c.in-Some.ensures.items inv.owned past;
      committed = λ k d within. contents-set m.stands m.footprint m.content m.spare m.limit (committed_log t e) logs old new n x y are lt at keeps same k d (omega (arith, within, inv.count))
          ∙ inv.committed k d within;
      blocks = (footprints-set m.footprint logs n x y at c.commit_log.ensures.blocks.0 ∙ inv.blocks.0, c.commit_log.ensures.blocks.1 ∙ inv.blocks.1);
      keeps_logs = keeps-logs-then m.stands m.footprint m.content m.spare c.args.logs.now.items logs c.args.room.now old new n y inv.blocks.0 lt at inv.keeps_logs keeps;
      keeps_olds = keeps-olds-then m.old_stands m.old_footprint m.old_content m.footprint c.args.logs.now.items logs c.args.room.now old new n y inv.blocks.0 lt at inv.keeps_olds c.commit_log.ensures.keeps_olds;
    }

pub returns-clause-committed : goal.returns-clause-committed
returns-clause-committed g c n d lt =
    let inv = c.loop-n.invariant in
    let here : n < length c.loop-n.logs.items = omega (arith, lt, inv.count) in
    let past : IsAllPast c.args.epoch (g.L.EdgeLog.content (get_or c.loop-n.logs.items n d) c.loop-n.room) =
    inv.owned.settled n d here (λ found. absurd (omega (arith, found.1, c.in_default.ensures.cases.0, c.loop-n.touched.ok.0))) in
    sym (committed-same c.args.tid c.args.epoch c.args.epoch (g.L.EdgeLog.content (get_or c.loop-n.logs.items n d) c.loop-n.room) past) ∙ inv.committed n d lt
