use Rattle.std.proofs.Common.{◌≡◌, ◌≤◌, [], length, drop}
use Rattle.edge_log.specs.Rooms.{AreApart, KeepsLogs, KeepsOlds}
use Rattle.core_rows.proofs.OpenedLogs.{pending_log}
use Rattle.vertex_rows.specs.Blocks.{Trades}
use Rattle.row_opening.proofs.list_log.log_of_list.Given as goal

-- the edges from the place on stand in the log, not yet committed
abbrev pub invariant-loop-left : goal.invariant-loop-left
invariant-loop-left g l = record {
  within : l.left ≤ length l.pairs;
  stands : g.L.EdgeLog.stands l.log l.room;
  appended : g.L.EdgeLog.content l.log l.room ≡ pending_log (drop l.left l.pairs);
  limit : g.L.EdgeLog.limit l.log ≡ l.most;
  apart : AreApart (g.L.EdgeLog.blocks_out l.fn.room) (g.L.EdgeLog.footprint l.log);
  out : Trades (g.L.EdgeLog.blocks_out l.fn.room) (g.L.EdgeLog.blocks_out l.room) [] (g.L.EdgeLog.footprint l.log);
  keeps_logs : KeepsLogs g.L.EdgeLog.stands g.L.EdgeLog.footprint g.L.EdgeLog.content g.L.EdgeLog.spare [] l.fn.room l.room;
  keeps_olds : KeepsOlds g.L.EdgeLog.old_stands g.L.EdgeLog.old_footprint g.L.EdgeLog.old_content [] l.fn.room l.room;
}

abbrev pub decreases-loop-left : goal.decreases-loop-left
decreases-loop-left g l = l.left
