use Rattle.std.proofs.Common.{◌≡◌}
use Rattle.core_rows.specs.Rows.{committed_log, each_log}
use Rattle.vertex_rows.specs.Owned.{AreOwned}
use Rattle.vertex_rows.specs.RowIn.{labelled_in}
use Rattle.vertex_rows.proofs.RowLogs.{labelled-each, are_owned_later}
use Rattle.vertex_rows.proofs.vertex_row.VertexRow.commit.Goals as goal

pub commit_touched-requires-clause-owned : goal.commit_touched-requires-clause-owned
commit_touched-requires-clause-owned g c =
    let row = c.args.self.now in
    let owned : AreOwned g.L.EdgeLog.content c.args.tid row.lock.committed row.touched.items row.logs.items c.args.room.now = rw c.requires.owner at c.requires.stands.owned in
    are_owned_later g.L.EdgeLog.content c.args.tid row.lock.committed c.args.epoch row.touched.items row.logs.items c.args.room.now c.requires.later owned

pub returns-clause-committed : goal.returns-clause-committed
returns-clause-committed g c =
    let row = c.args.self.now in
    let logs : labelled_in g.L.EdgeLog.content row.index c.commit_touched.new.logs.items c.commit_touched.new.room ≡ each_log (committed_log c.args.tid c.args.epoch) (labelled_in g.L.EdgeLog.content row.index row.logs.items c.args.room.now) =
    labelled-each g.L.EdgeLog.content (committed_log c.args.tid c.args.epoch) row.index row.logs.items c.commit_touched.new.logs.items c.args.room.now c.commit_touched.new.room c.commit_touched.ensures.count c.commit_touched.ensures.committed in
    rw (c.convert.ensures, logs)
