use Rattle.std.proofs.Common.{◌≡◌, sym, ◌∙◌, arith}
use Rattle.edge_log.specs.Contents.{with_undone}
use Rattle.core_rows.specs.Rows.{each_log}
use Rattle.vertex_rows.specs.Owned.{AreOwned}
use Rattle.vertex_rows.specs.RowIn.{labelled_in}
use Rattle.vertex_rows.proofs.RowLogs.{labelled-each}
use Rattle.vertex_rows.proofs.vertex_row.VertexRow.undo.Goals as goal

pub returns-clause-stands : goal.returns-clause-stands
returns-clause-stands g c =
    let row = c.args.self.now in
    let owned : AreOwned g.L.EdgeLog.content c.args.tid row.lock.committed row.touched.items row.logs.items c.args.room.now = rw c.requires.owner at c.requires.stands.owned in
    record {
      labelled = c.requires.stands.labelled ∙ sym c.undo_touched.ensures.count;
      logs = c.undo_touched.ensures.stand row.log_most c.requires.stands.logs;
      most = c.requires.stands.most;
      owned = (c.undo_touched.ensures.none_touched, λ n d lt. c.undo_touched.ensures.past row.lock.committed owned n d (omega (arith, lt, c.undo_touched.ensures.count)));
    }

pub returns-clause-undone : goal.returns-clause-undone
returns-clause-undone g c =
    let row = c.args.self.now in
    let logs : labelled_in g.L.EdgeLog.content row.index c.undo_touched.new.logs.items c.undo_touched.new.room ≡ each_log (with_undone c.args.tid) (labelled_in g.L.EdgeLog.content row.index row.logs.items c.args.room.now) =
    labelled-each g.L.EdgeLog.content (with_undone c.args.tid) row.index row.logs.items c.undo_touched.new.logs.items c.args.room.now c.undo_touched.new.room c.undo_touched.ensures.count c.undo_touched.ensures.undone in
    rw (c.undo.ensures, logs)
