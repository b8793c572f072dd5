-- The entries that a block of an order spells, where so many are in it.
use Rattle.std.specs.Prelude.{◌≡◌, ℕ, List}
use Rattle.edge_log.specs.Entries.{Entry, payload_sum}
use Rattle.block_layout.specs.Sizes.{props_start}
use Rattle.block_layout.specs.Blocks.{HoldsEntries}
use Rattle.block_layout.specs.Reads.{entries_in}
use Rattle.block_writing.specs.declared.fill.Fill.{Fill}

-- the entries that are read from the bytes
abbrev pub spelled : ℕ → Fill → List ℕ → List Entry
spelled order fill bytes = entries_in (props_start order) fill.entries fill.props bytes

-- The bytes hold the entries that are read from them, and these have so many payload bytes.
pub record Spells (order : ℕ) (fill : Fill) (bytes : List ℕ) : Type 0 where
  pub held : HoldsEntries (props_start order) (spelled order fill bytes) bytes
  pub sum : payload_sum (spelled order fill bytes) ≡ fill.props
