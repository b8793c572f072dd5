-- What a copy of a log's block into another one needs, and what it makes.
use Rattle.std.specs.Prelude.{◌≡◌, ℕ, ◌+◌, ◌*◌, ◌≤◌, List, length}
use Rattle.edge_log.specs.Entries.{Entry, payload_sum}
use Rattle.tel_entry.specs.declared.header.Header.{Header}
use Rattle.tel_entry.specs.Layouts.{header_len, entry_len}
use Rattle.block_layout.specs.Sizes.{order_most, block_len, props_start}
use Rattle.block_layout.specs.Blocks.{IsBlock}
use Rattle.block_writing.specs.Filters.{filter_in}
use Rattle.block_writing.specs.Headers.{moved_header}
use Rattle.tel_block.specs.declared.moving.Moving.{Moving}

-- The one block holds so much, and the other one has room for it.
pub record IsMovable (moving : Moving) (from to : List ℕ) : Type 0 where
  pub small : (moving.from_order ≤ order_most) × (moving.order ≤ order_most)
  pub long : length to ≡ block_len moving.order
  pub header : header_len ≤ length from
  pub held : props_start moving.from_order + moving.fill.props + entry_len * moving.fill.entries ≤ length from
  pub room : props_start moving.order + moving.fill.props + entry_len * moving.fill.entries ≤ length to

-- The other block has the entries of the first.
abbrev pub IsMoved : Moving → List ℕ → List ℕ → Type 0
IsMoved moving from new =
    (h : Header) (filter : List ℕ) (xs : List Entry) → IsBlock moving.from_order h filter xs from
    → length xs ≡ moving.fill.entries → payload_sum xs ≡ moving.fill.props
    → IsBlock moving.order (moved_header moving.order moving.previous h) (filter_in moving.order new) xs new
