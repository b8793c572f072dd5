use Rattle.std.proofs.Common.{◌≡◌, ℕ, ◌<◌, [], length, take, get_or}
use Rattle.graph_model.specs.Graph.{vertex_at}
use Rattle.edge_log.specs.Rooms.{AreApart, KeepsLogs, KeepsOlds}
use Rattle.core_rows.specs.Openings.{lists_in}
use Rattle.core_rows.proofs.OpenedLogs.{labelled_logs}
use Rattle.vertex_rows.specs.Blocks.{AreLogs, Trades, footprints_of}
use Rattle.vertex_rows.specs.Owned.{IsAllPast}
use Rattle.vertex_rows.specs.RowIn.{labelled_in}
use Rattle.row_opening.proofs.list_logs.logs_of_lists.Given as goal

-- the logs of the labels so far
abbrev pub invariant-loop-label : goal.invariant-loop-label
invariant-loop-label g l = record {
  named : l.index ≡ take l.label-index l.label-items;
  count : length l.index ≡ length l.logs.items;
  stand : AreLogs g.L.EdgeLog.stands g.L.EdgeLog.footprint g.L.EdgeLog.limit l.most l.logs.items l.room;
  opened : labelled_in g.L.EdgeLog.content l.index l.logs.items l.room ≡ labelled_logs l.epoch (lists_in (vertex_at l.v l.graph)) (take l.label-index l.label-items);
  past : (n : ℕ) (d : g.row.L.Denot) → n < length l.logs.items → IsAllPast l.epoch (g.L.EdgeLog.content (get_or l.logs.items n d) l.room);
  apart : AreApart (g.L.EdgeLog.blocks_out l.fn.room) (footprints_of g.L.EdgeLog.footprint l.logs.items);
  out : Trades (g.L.EdgeLog.blocks_out l.fn.room) (g.L.EdgeLog.blocks_out l.room) [] (footprints_of g.L.EdgeLog.footprint l.logs.items);
  keeps_logs : KeepsLogs g.L.EdgeLog.stands g.L.EdgeLog.footprint g.L.EdgeLog.content g.L.EdgeLog.spare [] l.fn.room l.room;
  keeps_olds : KeepsOlds g.L.EdgeLog.old_stands g.L.EdgeLog.old_footprint g.L.EdgeLog.old_content [] l.fn.room l.room;
}
