-- What the bytes of a block spell: its header, its filter, the payloads of its entries, oldest first, free bytes, and its entries, newest first.
use Rattle.std.specs.Prelude.{ℕ, ◌≡◌, ◌+◌, ◌-◌, ◌*◌, ◌≤◌, ◌==◌, IsTrue, List, length, take, drop}
use Rattle.std.specs.List.{list_any, AllByRecursion}
use Rattle.edge_log.specs.Entries.{Entry, payload_sum}
use Rattle.tel_entry.specs.declared.header.Header.{Header}
use Rattle.tel_entry.specs.Layouts.{header_len, entry_len, header_bytes, HeaderFits}
use Rattle.edge_bloom.specs.Filters.{HasBitsOf}
use Rattle.block_layout.specs.Sizes.{block_len, order_most, has_filter, filter_len, flags_of, props_start, bytes_at}
use Rattle.block_layout.specs.Rows.{HaveRows, rows_of, payloads_of}

-- The bytes hold these entries: their payloads from a place on, the oldest first, and at the end the entries, the newest first.
pub record HoldsEntries (start : ℕ) (xs : List Entry) (bytes : List ℕ) : Type 0 where
  pub fit : HaveRows xs
  pub within : start + payload_sum xs + entry_len * length xs ≤ length bytes
  pub payloads : bytes_at start (payload_sum xs) bytes ≡ payloads_of xs
  pub rows : drop (length bytes - entry_len * length xs) bytes ≡ rows_of xs

-- The filter of a block that has one holds the bits of the destinations of all these entries. It may hold those of more, which were undone.
abbrev pub KnowsAll : ℕ → List ℕ → List Entry → Type 0
KnowsAll order filter xs =
    IsTrue (has_filter order)
    → (ds : List ℕ) × (HasBitsOf filter ds × AllByRecursion (λ x. IsTrue (list_any (λ e. e == x.d) ds)) xs)

-- The bytes are a block of this order with this header and this filter, which holds these entries.
pub record IsBlock (order : ℕ) (header : Header) (filter : List ℕ) (xs : List Entry) (bytes : List ℕ) : Type 0 where
  pub small : order ≤ order_most
  pub long : length bytes ≡ block_len order
  pub fits : HeaderFits header
  pub ordered : header.order ≡ order
  pub flagged : header.flags ≡ flags_of order
  pub head : take header_len bytes ≡ header_bytes header
  pub bits : bytes_at header_len (filter_len order) bytes ≡ filter
  pub known : KnowsAll order filter xs
  pub entries : HoldsEntries (props_start order) xs bytes
