-- The last log is given back, beside those that are left.
use Rattle.std.proofs.Common.{◌≡◌, ◌++◌, ◌∷◌, [], List, subst, ◌∙◌}
use Rattle.edge_log.specs.Rooms.{Block, AreApart, KeepsLogs, KeepsOlds}
use Rattle.vertex_rows.specs.Blocks.{AreLogs, Trades, footprints_of}
use Rattle.row_opening.proofs.Openings.{logs-fewer, last-apart}
use Rattle.row_opening.proofs.Trading.{traded-given, traded-less, footprints-more}
use Rattle.row_opening.proofs.list_logs.give_back.Goals as goal

pub loop-log-preserved : goal.loop-log-preserved
loop-log-preserved g c =
    let m = g.L.EdgeLog in
    let inv = c.loop-log.invariant in
    let first = c.args.logs.items in
    let left = c.pop.new.self.items in
    let x = c.in-Some.log in
    let r0 = c.args.room.now in
    let r1 = c.loop-log.room in
    let r2 = c.release.new.room in
    let were : c.loop-log.logs.items ≡ left ++ x ∷ [] = c.in-Some.ensures.items in
    let keeps = subst (λ bs. KeepsLogs m.stands m.footprint m.content m.spare bs r1 r2) c.retire.ensures.blocks c.release.ensures.keeps_logs in
    let keeps_old = subst (λ bs. KeepsOlds m.old_stands m.old_footprint m.old_content bs r1 r2) c.retire.ensures.blocks c.release.ensures.keeps_olds in
    let given = subst (λ bs. Trades (m.blocks_out r1) (m.blocks_out r2) bs []) c.retire.ensures.blocks (traded-given (m.blocks_out r1) (m.blocks_out r2) (m.old_footprint c.retire.result) c.release.ensures.given) in
    let out = subst (λ (bs : List Block). Trades (m.blocks_out r0) (m.blocks_out r1) (footprints_of m.footprint first) bs) (footprints-more m.footprint left x) (subst (λ (logs : List g.row.L.Denot). Trades (m.blocks_out r0) (m.blocks_out r1) (footprints_of m.footprint first) (footprints_of m.footprint logs)) were inv.out) in
    let parts = λ (others : List Block) (apart : AreApart (footprints_of m.footprint first) others). last-apart m.footprint left x others (subst (λ (logs : List g.row.L.Denot). AreApart (footprints_of m.footprint logs) others) were (inv.beside others apart)) in
    record {
      stand = λ most are. logs-fewer m.stands m.footprint m.content m.spare m.limit left x r1 r2 (subst (λ (logs : List g.row.L.Denot). AreLogs m.stands m.footprint m.limit most logs r1) were (inv.stand most are)) keeps;
      beside = λ others apart. (parts others apart).0;
      out = traded-less (m.blocks_out r0) (m.blocks_out r1) (m.blocks_out r2) (footprints_of m.footprint left) (m.footprint x) (footprints_of m.footprint first) out given;
      keeps_logs = λ log standing apart.
          let one = inv.keeps_logs log standing apart in
          let two = keeps log one.0 (parts (m.footprint log) apart).1 in
          (two.0, two.1 ∙ one.1, two.2 ∙ one.2);
      keeps_olds = λ old standing apart.
          let one = inv.keeps_olds old standing apart in
          let two = keeps_old old one.0 (parts (m.old_footprint old) apart).1 in
          (two.0, two.1 ∙ one.1);
    }
