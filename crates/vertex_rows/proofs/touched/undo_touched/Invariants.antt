use Rattle.std.proofs.Common.{◌≡◌, ℕ, ◌<◌, length, get_or}
use Rattle.edge_log.specs.Rooms.{KeepsLogs, KeepsOlds}
use Rattle.edge_log.specs.Contents.{with_undone}
use Rattle.vertex_rows.specs.Blocks.{AreLogs, footprints_of}
use Rattle.vertex_rows.specs.Owned.{AreOwned}
use Rattle.vertex_rows.proofs.touched.undo_touched.Given as goal

-- what the undo makes of each log is what it makes of it at last
abbrev pub invariant-loop-n : goal.invariant-loop-n
invariant-loop-n g l = record {
  stand : (most : ℕ) → AreLogs g.L.EdgeLog.stands g.L.EdgeLog.footprint g.L.EdgeLog.limit most l.fn.logs.items l.fn.room → AreLogs g.L.EdgeLog.stands g.L.EdgeLog.footprint g.L.EdgeLog.limit most l.logs.items l.room;
  count : length l.logs.items ≡ length l.fn.logs.items;
  owned : (e : ℕ) → AreOwned g.L.EdgeLog.content l.tid e l.fn.touched.items l.fn.logs.items l.fn.room → AreOwned g.L.EdgeLog.content l.tid e l.touched.items l.logs.items l.room;
  undone : (n : ℕ) (d : g.row.L.Denot) → n < length l.fn.logs.items → with_undone l.tid (g.L.EdgeLog.content (get_or l.logs.items n d) l.room) ≡ with_undone l.tid (g.L.EdgeLog.content (get_or l.fn.logs.items n d) l.fn.room);
  blocks : (footprints_of g.L.EdgeLog.footprint l.logs.items ≡ footprints_of g.L.EdgeLog.footprint l.fn.logs.items) × (g.L.EdgeLog.blocks_out l.room ≡ g.L.EdgeLog.blocks_out l.fn.room);
  keeps_logs : KeepsLogs g.L.EdgeLog.stands g.L.EdgeLog.footprint g.L.EdgeLog.content g.L.EdgeLog.spare (footprints_of g.L.EdgeLog.footprint l.fn.logs.items) l.fn.room l.room;
  keeps_olds : KeepsOlds g.L.EdgeLog.old_stands g.L.EdgeLog.old_footprint g.L.EdgeLog.old_content (footprints_of g.L.EdgeLog.footprint l.fn.logs.items) l.fn.room l.room;
}

abbrev pub decreases-loop-n : goal.decreases-loop-n
decreases-loop-n g l = goal.left-loop-n g l
