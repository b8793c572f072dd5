use Rattle.std.proofs.Common.{◌≡◌, ℕ, ◌++◌, ◌∷◌, [], List, length, refl, ◌+◌, ap, sym, subst, ◌∙◌}
use Rattle.edge_log.specs.Rooms.{KeepsLogs, KeepsOlds}
use Rattle.vertex_rows.specs.Owned.{IsOwned}
use Rattle.vertex_rows.proofs.Fresh.{keeps_logs-fresh, keeps_olds-fresh, logs-kept, contents-kept, logs-more, row_grows_apart, owned-more, owned-first, labelled-more, one_longer}
use Rattle.vertex_rows.proofs.RowLogs.{no_place, labelled-same, owned_by_same, log_at-no_label}
use Rattle.vertex_rows.proofs.vertex_row.VertexRow.put_first.Goals as goal
use Rattle.vertex_rows.proofs.vertex_row.VertexRow.put_first.Goals.{After-release}
use Rattle.vertex_rows.proofs.vertex_row.VertexRow.put_first.Given.{Over}

-- the log that was given back lay in fresh blocks
keeps : (g : Over) (c : After-release g) → KeepsLogs g.L.EdgeLog.stands g.L.EdgeLog.footprint g.L.EdgeLog.content g.L.EdgeLog.spare [] c.args.room.now c.release.new.room
keeps g c =
    let m = g.L.EdgeLog in
    let x = c.in_ok-log.log in
    keeps_logs-fresh m.stands m.footprint m.content m.spare (m.blocks_out c.args.room.now) (m.footprint x) c.args.room.now c.log_with_first.new.room c.release.new.room
    c.log_with_first.ensures.keeps_logs c.in_ok-log.ensures.apart (λ log standing. g.met.L.EdgeLog.lies_out log c.args.room.now standing)
    (subst (λ bs. KeepsLogs m.stands m.footprint m.content m.spare bs c.log_with_first.new.room c.release.new.room) c.retire.ensures.blocks c.release.ensures.keeps_logs)

pub returns-in_default-clause-keeps_logs : goal.returns-in_default-clause-keeps_logs
returns-in_default-clause-keeps_logs g c = keeps g (goal.at.returns-in_default-clause-keeps_logs g c).After-release

pub returns-in_default-clause-keeps_olds : goal.returns-in_default-clause-keeps_olds
returns-in_default-clause-keeps_olds g c =
    let m = g.L.EdgeLog in
    let x = c.in_ok-log.log in
    keeps_olds-fresh m.old_stands m.old_footprint m.old_content (m.blocks_out c.args.room.now) (m.footprint x) c.args.room.now c.log_with_first.new.room c.release.new.room
    c.log_with_first.ensures.keeps_olds c.in_ok-log.ensures.apart (λ old standing. g.met.L.EdgeLog.old_lies_out old c.args.room.now standing)
    (subst (λ bs. KeepsOlds m.old_stands m.old_footprint m.old_content bs c.log_with_first.new.room c.release.new.room) c.retire.ensures.blocks c.release.ensures.keeps_olds)

pub returns-in_default-clause-stands : goal.returns-in_default-clause-stands
returns-in_default-clause-stands g c =
    let at = (goal.at.returns-in_default-clause-stands g c).After-release in
    let m = g.L.EdgeLog in
    let row = c.args.self.now in
    let logs = row.logs.items in
    let r0 = c.args.room.now in
    let r2 = c.release.new.room in
    let same = contents-kept m.stands m.footprint m.content m.spare m.limit logs r0 r2 c.requires.stands.logs (keeps g at) in
    record {
      most = c.requires.stands.most;
      labelled = rw (c.in_default.ensures.unchanged, c.name_label.ensures.keeps.0) c.requires.stands.labelled;
      logs = rw c.name_label.ensures.keeps.0 (logs-kept m.stands m.footprint m.content m.spare m.limit logs r0 r2 c.requires.stands.logs (keeps g at));
      owned = rw (c.name_label.ensures.keeps.0, c.name_label.ensures.keeps.1) (owned_by_same m.content row.lock.owner row.lock.committed row.touched.items logs logs r0 r2 refl same c.requires.stands.owned);
    }

pub returns-in_default-clause-unchanged : goal.returns-in_default-clause-unchanged
returns-in_default-clause-unchanged g c =
    let at = (goal.at.returns-in_default-clause-unchanged g c).After-release in
    let m = g.L.EdgeLog in
    let row = c.args.self.now in
    let logs = row.logs.items in
    let r0 = c.args.room.now in
    let r2 = c.release.new.room in
    let same = contents-kept m.stands m.footprint m.content m.spare m.limit logs r0 r2 c.requires.stands.logs (keeps g at) in
    rw (c.in_default.ensures.unchanged, c.name_label.ensures.keeps.0, labelled-same m.content row.index logs logs r0 r2 refl same)

pub returns-clause-stands : goal.returns-clause-stands
returns-clause-stands g c =
    let m = g.L.EdgeLog in
    let row = c.args.self.now in
    let logs = row.logs.items in
    let r0 = c.args.room.now in
    let r1 = c.log_with_first.new.room in
    let x = c.in_ok-log.log in
    let t = c.args.tid in
    let e = row.lock.committed in
    let number : c.in-Ok.n ≡ length logs = c.in-Ok.ensures.number ∙ c.requires.stands.labelled in
    let content : IsOwned t e (m.content x r1) = subst (IsOwned t e) (sym c.in_ok-log.ensures.written) (owned-first t e c.args.d c.args.p.now) in
    let keeps_logs = c.log_with_first.ensures.keeps_logs in
    let logs_are = c.push_reserved.ensures.items ∙ ap (λ (ls : List g.row.L.Denot). ls ++ x ∷ []) c.name_label.ensures.keeps.0 in
    let touched_are = c.push_reserved-2.ensures.items ∙ ap (λ (ns : List ℕ). ns ++ c.in-Ok.n ∷ []) c.name_label.ensures.keeps.1 in
    record {
      most = c.requires.stands.most;
      labelled = rw (logs_are, c.in-Ok.ensures.named) (one_longer row.index c.args.l ∙ ap (λ (k : ℕ). k + 1) c.requires.stands.labelled ∙ sym (one_longer logs x));
      logs = rw logs_are (logs-more m.stands m.footprint m.content m.spare m.limit (m.blocks_out r0) logs r0 r1 x c.requires.stands.logs keeps_logs c.in_ok-log.ensures.stands c.in_ok-log.ensures.limit c.in_ok-log.ensures.apart (λ log standing. g.met.L.EdgeLog.lies_out log r0 standing));
      owned = rw (logs_are, touched_are) (owned-more m.stands m.footprint m.content m.spare m.limit t e row.touched.items logs r0 r1 c.in-Ok.n x c.requires.stands.logs keeps_logs number c.requires.owned content);
    }

pub returns-clause-written : goal.returns-clause-written
returns-clause-written g c read =
    let m = g.L.EdgeLog in
    let row = c.args.self.now in
    let logs = row.logs.items in
    let r0 = c.args.room.now in
    let r1 = c.log_with_first.new.room in
    let x = c.in_ok-log.log in
    let l = c.args.l in
    let none = no_place l row.index c.requires.unnamed in
    let same = contents-kept m.stands m.footprint m.content m.spare m.limit logs r0 r1 c.requires.stands.logs c.log_with_first.ensures.keeps_logs in
    let labelled = labelled-more m.content l row.index logs r0 r1 x none c.requires.stands.labelled same in
    rw (c.push_reserved.ensures.items, c.in-Ok.ensures.named, c.name_label.ensures.keeps.0, labelled, c.in_ok-log.ensures.written, log_at-no_label m.content l row.index logs r0 none)

pub returns-clause-apart : goal.returns-clause-apart
returns-clause-apart g c =
    let m = g.L.EdgeLog in
    let row = c.args.self.now in
    rw (c.push_reserved.ensures.items, c.name_label.ensures.keeps.0)
    (row_grows_apart m.footprint (m.blocks_out c.args.room.now) row.logs.items c.in_ok-log.log c.in_ok-log.ensures.apart)
