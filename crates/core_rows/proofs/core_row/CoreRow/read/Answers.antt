-- The vertex is there exactly where a payload was found.
use Rattle.std.proofs.Common.{◌≡◌, ◌∙◌, ap}
use Rattle.std.specs.Prelude.{Some, None}
use Rattle.graph_model.specs.Graph.{asked_vertex}
use Rattle.stamps.specs.Stamps.{Txn}
use Rattle.vertex_versions.specs.Versions.{payload_at}
use Rattle.core_rows.specs.Rows.{Row, shown_lists}
use Rattle.core_rows.proofs.Shown.{living-payload}
use Rattle.core_rows.proofs.core_row.CoreRow.read.Goals as goal

pub returns-in-Some : goal.returns-in-Some
returns-in-Some c =
    let v = asked_vertex c.args.q.now in
    let row = c.args.self.now in
    let lists = shown_lists row.logs c.args.read (Txn c.args.tid) in
    let found : Some c.in-Some.payload.now ≡ payload_at row.versions c.args.read (Txn c.args.tid) = c.in-Some.ensures ∙ ap (λ (x : Row). payload_at x.versions c.args.read (Txn c.args.tid)) c.self.view_is in
    rw (living-payload v row.versions lists c.args.read (Txn c.args.tid), ← found) c.read_living.ensures

pub returns-in-None : goal.returns-in-None
returns-in-None c =
    let v = asked_vertex c.args.q.now in
    let row = c.args.self.now in
    let lists = shown_lists row.logs c.args.read (Txn c.args.tid) in
    let found : None ≡ payload_at row.versions c.args.read (Txn c.args.tid) = c.in-None.ensures ∙ ap (λ (x : Row). payload_at x.versions c.args.read (Txn c.args.tid)) c.self.view_is in
    rw (living-payload v row.versions lists c.args.read (Txn c.args.tid), ← found)
