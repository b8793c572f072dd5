-- How long a block of an order is, and where its parts begin.
use Rattle.std.specs.Prelude.{ℕ, ◌+◌, ◌-◌, ◌*◌, ◌/◌, ◌^◌, nat_le, Bool, if◌then◌else◌, List, take, drop}
use Rattle.tel_entry.specs.Layouts.{header_len, entry_len}

-- how many bytes a block has
abbrev pub block_len : ℕ → ℕ
block_len order = 64 * 2 ^ order

-- the greatest order
abbrev pub order_most : ℕ
order_most = 25

-- A block of 512 bytes or more has a filter.
abbrev pub has_filter : ℕ → Bool
has_filter order = nat_le 3 order

-- how many bytes the filter has: 1 of 16 of the block's
abbrev pub filter_len : ℕ → ℕ
filter_len order = if has_filter order then 4 * 2 ^ order else 0

-- the flags in the header: bit 0 where the block has a filter, and no other
abbrev pub flags_of : ℕ → ℕ
flags_of order = if has_filter order then 1 else 0

-- where the payloads begin
abbrev pub props_start : ℕ → ℕ
props_start order = header_len + filter_len order

-- the n bytes from a place on
abbrev pub bytes_at : ℕ → ℕ → List ℕ → List ℕ
bytes_at from n bytes = take n (drop from bytes)

-- how many entries without payloads a block holds
abbrev pub entries_most : ℕ → ℕ
entries_most order = (block_len order - props_start order) / entry_len
