use Rattle.std.proofs.Common.{◌∙◌, ap, sym}
use Rattle.std.specs.Prelude.{filter}
use Rattle.std.proofs.lemmas.List.{take_all}
use Rattle.graph_model.specs.declared.query.Answer.TheVariants.{Named}
use Rattle.stamps.specs.Stamps.{Txn}
use Rattle.vertex_rows.specs.RowIn.{labelled_in}
use Rattle.vertex_rows.proofs.ReadRows.{is_shown, labels-shown, labels_risen, rise-labelled}
use Rattle.vertex_rows.proofs.vertex_row.VertexRow.labels.Goals as goal

pub returns-clause-answer : goal.returns-clause-answer
returns-clause-answer g c =
    let row = c.args.self.now in
    let logs = labelled_in g.L.EdgeLog.content row.index row.logs.items c.args.room.now in
    let labels = c.in_ok-labels.ensures in
    let all = labels_risen g.L.EdgeLog.content row.index c.in_ok-labels.labels row.logs.items c.args.room.now c.requires.labelled labels.labels labels.rising in
    let ended = take_all c.loop-label.label-index c.as_slice-label-items.result.now c.loop-label-test.false ∙ c.as_slice-label-items.ensures ∙ all in
    ap Named (c.loop-label.invariant.seen ∙ ap (filter (is_shown logs c.args.read (Txn c.args.tid))) ended
    ∙ sym (labels-shown logs c.args.read (Txn c.args.tid) (rise-labelled g.L.EdgeLog.content row.index row.logs.items c.args.room.now)))
