use Rattle.std.proofs.Common.{◌≡◌, ◌∙◌, ap, sym}
use Rattle.std.specs.Prelude.{is_some}
use Rattle.graph_model.specs.Graph.{pair_to}
use Rattle.stamps.specs.Stamps.{Txn}
use Rattle.edge_log.specs.Entries.{shown}
use Rattle.edge_log.specs.Contents.{LogContent}
use Rattle.core_rows.specs.Rows.{log_at}
use Rattle.core_rows.proofs.Shown.{has_pair}
use Rattle.vertex_rows.specs.RowIn.{labelled_in}
use Rattle.vertex_rows.proofs.RowLogs.{place_of, no_place, log_at-labelled, log_at-no_label}
use Rattle.vertex_rows.proofs.vertex_row.VertexRow.has_edge.Goals as goal

pub returns-in-Some : goal.returns-in-Some
returns-in-Some g c =
    let m = g.L.EdgeLog in
    let row = c.args.self.now in
    let at = place_of c.args.l c.in-Some.n row.index (sym c.row.ensures ∙ c.in-Some.is) in
    let asked : log_at (labelled_in m.content row.index row.logs.items c.args.room.now) c.args.l ≡ m.content c.at.result.now c.args.room.now =
    log_at-labelled m.content c.args.l row.index row.logs.items c.args.room.now c.in-Some.n c.at.result.now at.0 at.1 c.requires.stands.labelled
    ∙ ap (λ log. m.content log c.args.room.now) (sym c.at.ensures) in
    c.is_some.ensures ∙ c.find.ensures.shown ∙ sym (has_pair c.args.d (shown (m.content c.at.result.now c.args.room.now).entries c.args.read (Txn c.args.tid)))
    ∙ ap (λ (log : LogContent). is_some (pair_to c.args.d (shown log.entries c.args.read (Txn c.args.tid)))) (sym asked)

pub returns-in-None : goal.returns-in-None
returns-in-None g c =
    let row = c.args.self.now in
    rw (log_at-no_label g.L.EdgeLog.content c.args.l row.index row.logs.items c.args.room.now (no_place c.args.l row.index (sym c.row.ensures ∙ c.in-None.is)))
