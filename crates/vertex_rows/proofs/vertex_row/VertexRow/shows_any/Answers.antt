use Rattle.std.proofs.Common.{◌∙◌, sym}
use Rattle.stamps.specs.Stamps.{Txn}
use Rattle.edge_log.specs.Entries.{shown}
use Rattle.vertex_rows.proofs.ReadRows.{log_under, no_log_under, some_pairs}
use Rattle.vertex_rows.proofs.vertex_row.VertexRow.shows_any.Goals as goal

pub returns-in-Some-clause-any : goal.returns-in-Some-clause-any
returns-in-Some-clause-any g c =
    let row = c.args.self.now in
    let log = log_under g.L.EdgeLog.content c.args.l row.index row.logs.items c.args.room.now c.in-Some.n c.at.result.now (sym c.row.ensures ∙ c.in-Some.is) c.requires.labelled c.at.ensures in
    rw log (c.shows_any.ensures.any ∙ some_pairs (shown (g.L.EdgeLog.content c.at.result.now c.args.room.now).entries c.args.read (Txn c.args.tid)))

pub returns-in-None-clause-any : goal.returns-in-None-clause-any
returns-in-None-clause-any g c =
    let row = c.args.self.now in
    rw (no_log_under g.L.EdgeLog.content c.args.l row.index row.logs.items c.args.room.now (sym c.row.ensures ∙ c.in-None.is))
