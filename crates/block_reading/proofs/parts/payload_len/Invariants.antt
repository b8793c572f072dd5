use Rattle.std.proofs.Common.{◌≡◌, ◌+◌, drop}
use Rattle.block_reading.specs.RowLists.{lens_of}
use Rattle.block_reading.proofs.parts.payload_len.Given as goal

-- the sum so far, and that of the rows that are left
abbrev pub invariant-loop-row : goal.invariant-loop-row
invariant-loop-row l = l.len + lens_of (drop l.row-index l.rows) ≡ lens_of l.rows
