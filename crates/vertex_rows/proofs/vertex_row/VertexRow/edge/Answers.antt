use Rattle.std.proofs.Common.{◌≡◌, ◌∙◌, sym}
use Rattle.std.specs.Option.{option_map}
use Rattle.graph_model.specs.Graph.{pair_to, pairs_in}
use Rattle.stamps.specs.Stamps.{Txn}
use Rattle.core_rows.specs.Rows.{shown_lists}
use Rattle.vertex_rows.specs.RowIn.{labelled_in}
use Rattle.vertex_rows.proofs.ReadRows.{pairs_under, no_pairs_under, answered, absent}
use Rattle.vertex_rows.proofs.vertex_row.VertexRow.edge.Goals as goal
use Rattle.vertex_rows.proofs.vertex_row.VertexRow.edge.Goals.{In_ok-payload}
use Rattle.vertex_rows.proofs.vertex_row.VertexRow.edge.Given.{Over}

pub returns-in_default : goal.returns-in_default
returns-in_default g c =
    let row = c.args.self.now in
    rw (no_pairs_under g.L.EdgeLog.content c.args.l row.index row.logs.items c.args.room.now c.args.read (Txn c.args.tid) (sym c.row.ensures ∙ c.in_default.is))

-- the payload that was found is that of the edge under the label
found : (g : Over) (c : In_ok-payload g) → c.in_ok-payload.payload ≡ option_map (λ x. x.p) (pair_to c.args.d (pairs_in (shown_lists (labelled_in g.L.EdgeLog.content c.args.self.now.index c.args.self.now.logs.items c.args.room.now) c.args.read (Txn c.args.tid)) c.args.l))
found g c =
    let row = c.args.self.now in
    let under = pairs_under g.L.EdgeLog.content c.args.l row.index row.logs.items c.args.room.now c.in-Some.n c.at.result.now c.args.read (Txn c.args.tid) (sym c.row.ensures ∙ c.in-Some.is) c.requires.labelled c.at.ensures in
    rw under c.in_ok-payload.ensures

pub returns-in-Some-payload : goal.returns-in-Some-payload
returns-in-Some-payload g c =
    let o = pair_to c.args.d (pairs_in (shown_lists (labelled_in g.L.EdgeLog.content c.args.self.now.index c.args.self.now.logs.items c.args.room.now) c.args.read (Txn c.args.tid)) c.args.l) in
    answered o c.in-Some-payload.payload (sym c.in-Some-payload.is ∙ found g (goal.at.returns-in-Some-payload g c).In_ok-payload)

pub returns-in-None : goal.returns-in-None
returns-in-None g c =
    let o = pair_to c.args.d (pairs_in (shown_lists (labelled_in g.L.EdgeLog.content c.args.self.now.index c.args.self.now.logs.items c.args.room.now) c.args.read (Txn c.args.tid)) c.args.l) in
    absent o (sym c.in-None.is ∙ found g (goal.at.returns-in-None g c).In_ok-payload)
