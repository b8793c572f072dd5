use Rattle.std.proofs.Common.{◌≡◌, take}
use Rattle.std.specs.Prelude.{filter}
use Rattle.stamps.specs.Stamps.{Txn}
use Rattle.vertex_rows.specs.RowIn.{labelled_in}
use Rattle.vertex_rows.proofs.ReadRows.{is_shown}
use Rattle.vertex_rows.proofs.vertex_row.VertexRow.labels.Given as goal

-- of the labels so far, those whose log shows an edge
abbrev pub invariant-loop-label : goal.invariant-loop-label
invariant-loop-label g l = record {
  bytes : l.part.bytes ≡ l.fn.part.bytes;
  seen : l.seen ≡ filter (is_shown (labelled_in g.L.EdgeLog.content l.self.index l.self.logs.items l.room) l.read (Txn l.tid)) (take l.label-index l.label-items);
}
