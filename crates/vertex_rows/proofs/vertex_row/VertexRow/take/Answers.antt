use Rattle.vertex_rows.proofs.RowLogs.{owned_taken}
use Rattle.vertex_rows.proofs.vertex_row.VertexRow.take.Goals as goal

pub returns-clause-stands : goal.returns-clause-stands
returns-clause-stands g c room stands =
    let row = c.args.self.now in
    record {
      labelled = stands.labelled;
      most = stands.most;
      logs = stands.logs;
      owned = owned_taken g.L.EdgeLog.content row.lock.owner row.lock.committed c.args.tid c.requires.taken.0 row.lock.committed row.touched.items row.logs.items room c.requires.taken.1 stands.owned;
    }
