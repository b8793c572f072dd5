use Rattle.std.proofs.Common.{◌≡◌, ◌+◌, List, length, drop}
use Rattle.stamps.specs.Stamps.{Txn}
use Rattle.edge_log.specs.Entries.{Entry as LogEntry}
use Rattle.edge_log.specs.Places.{newest_place}
use Rattle.block_layout.specs.Rows.{HaveRows}
use Rattle.block_reading.specs.RowLists.{row_list}
use Rattle.block_reading.proofs.walks.newest_row.Given as goal

-- the entries that are left have the same newest one
abbrev pub invariant-loop-row : goal.invariant-loop-row
invariant-loop-row l = record {
  place : l.place + l.row-index ≡ length l.rows;
  left : (xs : List LogEntry) → HaveRows xs → l.rows ≡ row_list xs → newest_place (drop l.row-index xs) l.d l.read (Txn l.tid) ≡ newest_place xs l.d l.read (Txn l.tid);
}
