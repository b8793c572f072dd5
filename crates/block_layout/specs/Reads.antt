-- The entries that are read from the bytes of a block.
use Rattle.std.specs.Prelude.{ℕ, zero, suc, ◌+◌, ◌-◌, ◌*◌, List, [], ◌∷◌, length, drop}
use Rattle.byteorder.specs.Endian.{big_number}
use Rattle.edge_log.specs.Entries.{Entry}
use Rattle.tel_entry.specs.declared.entry.Entry.{Entry as RawEntry}
use Rattle.tel_entry.specs.Layouts.{entry_len}
use Rattle.tel_entry.specs.RawStamps.{stamp_of}
use Rattle.block_layout.specs.Sizes.{bytes_at}

-- the numbers in the first 28 bytes
unfoldable pub raw_in : List ℕ → RawEntry
raw_in bytes = record {
  d = big_number 8 bytes;
  created = big_number 8 (drop 8 bytes);
  ended = big_number 8 (drop 16 bytes);
  len = big_number 4 (drop 24 bytes);
}

-- the entry with these numbers and this payload
abbrev pub entry_with : RawEntry → List ℕ → Entry
entry_with raw p = record { d = raw.d; p = p; created = stamp_of raw.created; ended = stamp_of raw.ended }

-- where the entry of a place stands: the oldest, at place 0, at the end of the bytes
abbrev pub row_start : ℕ → List ℕ → ℕ
row_start place bytes = length bytes - entry_len * (place + 1)

-- the numbers of the entry of a place
abbrev pub raw_at : ℕ → List ℕ → RawEntry
raw_at place bytes = raw_in (drop (row_start place bytes) bytes)

-- the oldest n entries, the newest of them first, where their payloads begin at a place and have `props` bytes
abbrev pub entries_in : ℕ → ℕ → ℕ → List ℕ → List Entry
entries_in start zero props bytes = []
entries_in start (suc n) props bytes =
    let raw = raw_at n bytes in
    let below = props - raw.len in
    entry_with raw (bytes_at (start + below) raw.len bytes) ∷ entries_in start n below bytes
