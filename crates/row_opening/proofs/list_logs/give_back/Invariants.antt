use Rattle.std.proofs.Common.{ℕ, List, length}
use Rattle.edge_log.specs.Rooms.{Block, AreApart, KeepsLogs, KeepsOlds}
use Rattle.vertex_rows.specs.Blocks.{AreLogs, Trades, footprints_of}
use Rattle.row_opening.proofs.list_logs.give_back.Given as goal

-- the logs that are left stand, and the blocks of the others are given back
abbrev pub invariant-loop-log : goal.invariant-loop-log
invariant-loop-log g l = record {
  stand : (most : ℕ) → AreLogs g.L.EdgeLog.stands g.L.EdgeLog.footprint g.L.EdgeLog.limit most l.fn.logs.items l.fn.room → AreLogs g.L.EdgeLog.stands g.L.EdgeLog.footprint g.L.EdgeLog.limit most l.logs.items l.room;
  beside : (others : List Block) → AreApart (footprints_of g.L.EdgeLog.footprint l.fn.logs.items) others → AreApart (footprints_of g.L.EdgeLog.footprint l.logs.items) others;
  out : Trades (g.L.EdgeLog.blocks_out l.fn.room) (g.L.EdgeLog.blocks_out l.room) (footprints_of g.L.EdgeLog.footprint l.fn.logs.items) (footprints_of g.L.EdgeLog.footprint l.logs.items);
  keeps_logs : KeepsLogs g.L.EdgeLog.stands g.L.EdgeLog.footprint g.L.EdgeLog.content g.L.EdgeLog.spare (footprints_of g.L.EdgeLog.footprint l.fn.logs.items) l.fn.room l.room;
  keeps_olds : KeepsOlds g.L.EdgeLog.old_stands g.L.EdgeLog.old_footprint g.L.EdgeLog.old_content (footprints_of g.L.EdgeLog.footprint l.fn.logs.items) l.fn.room l.room;
}

abbrev pub decreases-loop-log : goal.decreases-loop-log
decreases-loop-log g l = length l.logs.items
