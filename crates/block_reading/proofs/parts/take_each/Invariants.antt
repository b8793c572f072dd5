use Rattle.std.proofs.Common.{◌≡◌, ◌+◌, ◌-◌, ◌≤◌, ◌++◌, length, drop}
use Rattle.std.specs.Prelude.{IsTrue}
use Rattle.stamps.specs.Stamps.{Txn}
use Rattle.edge_log.specs.Parts.{part_most}
use Rattle.block_reading.specs.RowLists.{lens_of, shown_in}
use Rattle.block_reading.proofs.parts.take_each.Given as goal

-- the edges so far, followed by those of the rows that are left, are those of all
abbrev pub invariant-loop-row : goal.invariant-loop-row
invariant-loop-row l = record {
  pairs : l.out.pairs ++ shown_in (drop l.row-index l.rows) l.out.range l.read (Txn l.tid)
      ≡ l.fn.out.pairs ++ shown_in l.rows l.fn.out.range l.read (Txn l.tid);
  few : length l.out.pairs + (length l.rows - l.row-index) ≤ part_most;
  within : lens_of (drop l.row-index l.rows) ≤ length l.out.range;
  lens : IsTrue l.bare → lens_of (drop l.row-index l.rows) ≡ 0;
  bytes : l.out.bytes ≡ l.fn.out.bytes;
}
