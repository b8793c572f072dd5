use Rattle.std.proofs.Common.{◌∙◌, ap, sym}
use Rattle.graph_model.specs.declared.query.Answer.TheVariants.{Edges}
use Rattle.stamps.specs.Stamps.{Txn}
use Rattle.vertex_rows.proofs.ReadRows.{pairs_under, no_pairs_under}
use Rattle.vertex_rows.proofs.vertex_row.VertexRow.scan.Goals as goal

pub returns-in_default-clause-answer : goal.returns-in_default-clause-answer
returns-in_default-clause-answer g c =
    let row = c.args.self.now in
    ap Edges (c.new.ensures ∙ sym (no_pairs_under g.L.EdgeLog.content c.args.l row.index row.logs.items c.args.room.now c.args.read (Txn c.args.tid) (sym c.row.ensures ∙ c.in_default.is)))

pub returns-clause-answer : goal.returns-clause-answer
returns-clause-answer g c =
    let row = c.args.self.now in
    ap Edges (c.in_ok-pairs.ensures.pairs
    ∙ sym (pairs_under g.L.EdgeLog.content c.args.l row.index row.logs.items c.args.room.now c.in-Some.n c.at.result.now c.args.read (Txn c.args.tid) (sym c.row.ensures ∙ c.in-Some.is) c.requires.stands.labelled c.at.ensures))
