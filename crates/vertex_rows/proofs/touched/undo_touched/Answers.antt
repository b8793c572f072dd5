use Rattle.std.proofs.Common.{◌≡◌, ℕ, ◌<◌, List, length, get_or, sym, subst, ◌∙◌, arith}
use Rattle.std.specs.Prelude.{Contains}
use Rattle.std.proofs.lemmas.List.{length-set}
use Rattle.std.proofs.lemmas.List.Elements.{Contains-push}
use Rattle.edge_log.specs.Contents.{HasTailOf, with_undone}
use Rattle.vertex_rows.specs.Owned.{IsOwned, IsAllPast, AreOwned}
use Rattle.vertex_rows.proofs.Contents.{undone-past, undone-same}
use Rattle.vertex_rows.proofs.Logs.{footprints-set, logs-set, contents-set, owned-set, keeps-logs-then, keeps-olds-then}
use Rattle.vertex_rows.proofs.touched.undo_touched.Goals as goal
use Rattle.vertex_rows.proofs.touched.undo_touched.Goals.{At-loop-n, In-Some, In_default}
use Rattle.vertex_rows.proofs.touched.undo_touched.Given.{Over}

-- the logs are owned, with some epoch
owned_now : (g : Over) (c : At-loop-n g) → AreOwned g.L.EdgeLog.content c.args.tid c.requires.owned.0 c.loop-n.touched.items c.loop-n.logs.items c.loop-n.room
owned_now g c = c.loop-n.invariant.owned c.requires.owned.0 c.requires.owned.1

-- the number that was touched last is one of a log
within : (g : Over) (c : In-Some g) → c.in-Some.n < length c.loop-n.logs.items
within g c =
    (c.loop-n.invariant.owned c.requires.owned.0 c.requires.owned.1).within c.in-Some.n (subst (λ (xs : List ℕ). Contains xs c.in-Some.n) (sym c.in-Some.ensures.items) (Contains-push c.pop.new.self.items c.in-Some.n))

pub at_mut-requires : goal.at_mut-requires
at_mut-requires g c = omega (arith, within g (goal.at.at_mut-requires g c).In-Some)

pub undo-requires-clause-stands : goal.undo-requires-clause-stands
undo-requires-clause-stands g c =
    subst (λ log. g.L.EdgeLog.stands log c.loop-n.room) (sym c.at_mut.ensures.value)
    ((c.loop-n.invariant.stand c.requires.stand.0 c.requires.stand.1).stand c.in-Some.n c.at_mut.result.now (within g (goal.at.undo-requires-clause-stands g c).In-Some))

pub undo-requires-clause-tail : goal.undo-requires-clause-tail
undo-requires-clause-tail g c =
    let at = goal.at.undo-requires-clause-tail g c in
    subst (λ log. HasTailOf c.args.tid (g.L.EdgeLog.content log c.loop-n.room)) (sym c.at_mut.ensures.value)
    ((owned_now g at.At-loop-n).owned c.in-Some.n c.at_mut.result.now (within g at.In-Some)).tail

pub loop-n-preserved : goal.loop-n-preserved
loop-n-preserved g c =
    let m = g.L.EdgeLog in
    let logs = c.loop-n.logs.items in
    let old = c.loop-n.room in
    let new = c.undo.new.room in
    let n = c.in-Some.n in
    let x = c.undo.new.self in
    let y = c.at_mut.result.now in
    let t = c.args.tid in
    let lt : n < length logs = within g (goal.at.loop-n-preserved g c).In-Some in
    let at = c.at_mut.ensures.value in
    let inv = c.loop-n.invariant in
    let are = inv.stand c.requires.stand.0 c.requires.stand.1 in
    let keeps = c.undo.ensures.keeps_logs in
    let past : (e : ℕ) → AreOwned m.content t e c.loop-n.touched.items logs old → IsAllPast e (m.content x new) = λ e owned.
    subst (IsAllPast e) (sym c.undo.ensures.undone) (undone-past t e (m.content y old) (subst (λ log. IsOwned t e (m.content log old)) (sym at) (owned.owned n y lt))) in
    let e = c.requires.owned.0 in
    let same : with_undone t (m.content x new) ≡ with_undone t (m.content y old) =
    undone-same t e (m.content x new) (past e (owned_now g (goal.at.loop-n-preserved g c).At-loop-n)) ∙ c.undo.ensures.undone in
    record {
      stand = λ most first. logs-set m.stands m.footprint m.content m.spare m.limit logs old new n x y (inv.stand most first) lt at c.undo.ensures.stands c.undo.ensures.limit c.undo.ensures.blocks.0 keeps;
      count = length-set logs n x ∙ inv.count;
      owned = λ f start. owned-set m.stands m.footprint m.content m.spare m.limit t f c.loop-n.touched.items c.pop.new.self.items logs old new n x y are lt at keeps c.in-Some.ensures.items (inv.owned f start) (past f (inv.owned f start));
      undone = λ k d within. contents-set m.stands m.footprint m.content m.spare m.limit (with_undone t) logs old new n x y are lt at keeps same k d (omega (arith, within, inv.count))
          ∙ inv.undone k d within;
      blocks = (footprints-set m.footprint logs n x y at c.undo.ensures.blocks.0 ∙ inv.blocks.0, c.undo.ensures.blocks.1 ∙ inv.blocks.1);
      keeps_logs = keeps-logs-then m.stands m.footprint m.content m.spare c.args.logs.now.items logs c.args.room.now old new n y inv.blocks.0 lt at inv.keeps_logs keeps;
      keeps_olds = keeps-olds-then m.old_stands m.old_footprint m.old_content m.footprint c.args.logs.now.items logs c.args.room.now old new n y inv.blocks.0 lt at inv.keeps_olds c.undo.ensures.keeps_olds;
    }

past_now : (g : Over) (c : In_default g) (e n : ℕ) (d : g.row.L.Denot) → AreOwned g.L.EdgeLog.content c.args.tid e c.args.touched.now.items c.args.logs.now.items c.args.room.now → n < length c.args.logs.now.items → IsAllPast e (g.L.EdgeLog.content (get_or c.loop-n.logs.items n d) c.loop-n.room)
past_now g c e n d start lt =
    (c.loop-n.invariant.owned e start).settled n d (omega (arith, lt, c.loop-n.invariant.count)) (λ found. absurd (omega (arith, found.1, c.in_default.ensures.cases.0, c.loop-n.touched.ok.0)))

pub returns-clause-undone : goal.returns-clause-undone
returns-clause-undone g c n d lt =
    let e = c.requires.owned.0 in
    sym (undone-same c.args.tid e (g.L.EdgeLog.content (get_or c.loop-n.logs.items n d) c.loop-n.room) (past_now g c e n d c.requires.owned.1 lt)) ∙ c.loop-n.invariant.undone n d lt

pub returns-clause-past : goal.returns-clause-past
returns-clause-past g c e start n d lt = past_now g c e n d start lt
