use Rattle.std.proofs.Common.{◌≡◌, ◌+◌, max, List, ◌∷◌, drop, ap, ◌∙◌, arith}
use Rattle.graph_model.specs.declared.record.Record.{Record}
use Rattle.graph_model.specs.Records.{all_changes, made_vertices}
use Rattle.graph_model.proofs.Snapshots.{drop-item}
use Rattle.group_codec.proofs.Making.{made-append}
use Rattle.graph_recover.specs.Bases.{greatest_of}
use Rattle.graph_recover.proofs.Greatest.{greatest_of-append}
use Rattle.graph_recover.proofs.base.greatest_vertex.Goals as goal

-- the greatest vertex of a record's changes or of those behind it
greatest-first : (r : Record) (rest : List Record) → greatest_of (made_vertices (all_changes (r ∷ rest))) ≡ max (greatest_of (made_vertices r.changes)) (greatest_of (made_vertices (all_changes rest)))
greatest-first r rest = ap greatest_of (made-append r.changes (all_changes rest)) ∙ greatest_of-append (made_vertices r.changes) (made_vertices (all_changes rest))

pub loop-record-preserved : goal.loop-record-preserved
loop-record-preserved c =
    let i = c.loop-record.record-index in
    let rs = c.args.records.now in
    let r = c.record-item.result in
    let here = ap (λ xs. greatest_of (made_vertices (all_changes xs))) (drop-item rs i r c.loop-record-test.true c.record-item.is) ∙ greatest-first r (drop (i + 1) rs) in
    let one = c.greatest_made.ensures ∙ ap (λ xs. greatest_of (made_vertices xs)) c.as_slice.ensures in
    omega (arith, c.loop-record.invariant, here, one, c.max-most.ensures)
