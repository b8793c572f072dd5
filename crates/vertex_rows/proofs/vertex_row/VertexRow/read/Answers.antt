-- The vertex is there exactly where a payload was found.
use Rattle.std.proofs.Common.{◌≡◌}
use Rattle.std.specs.Prelude.{Some, None}
use Rattle.graph_model.specs.Graph.{asked_vertex}
use Rattle.stamps.specs.Stamps.{Txn}
use Rattle.vertex_versions.specs.Versions.{payload_at}
use Rattle.core_rows.specs.Rows.{shown_lists}
use Rattle.core_rows.proofs.Shown.{living-payload}
use Rattle.vertex_rows.specs.RowIn.{labelled_in}
use Rattle.vertex_rows.proofs.vertex_row.VertexRow.read.Goals as goal

pub returns-in-Some-clause-answer : goal.returns-in-Some-clause-answer
returns-in-Some-clause-answer g c =
    let v = asked_vertex c.args.q.now in
    let row = c.args.self.now in
    let lists = shown_lists (labelled_in g.L.EdgeLog.content row.index row.logs.items c.args.room.now) c.args.read (Txn c.args.tid) in
    let found : Some c.in-Some.payload.now ≡ payload_at row.versions c.args.read (Txn c.args.tid) = c.in-Some.ensures in
    rw (living-payload v row.versions lists c.args.read (Txn c.args.tid), ← found) c.read_living.ensures.answer

pub returns-in-None-clause-answer : goal.returns-in-None-clause-answer
returns-in-None-clause-answer g c =
    let v = asked_vertex c.args.q.now in
    let row = c.args.self.now in
    let lists = shown_lists (labelled_in g.L.EdgeLog.content row.index row.logs.items c.args.room.now) c.args.read (Txn c.args.tid) in
    let found : None ≡ payload_at row.versions c.args.read (Txn c.args.tid) = c.in-None.ensures in
    rw (living-payload v row.versions lists c.args.read (Txn c.args.tid), ← found)
