-- How the header of a block and an entry are laid out in bytes: fields of fixed width, the highest byte first.
use Rattle.std.specs.Prelude.{ℕ, ◌^◌, ◌<◌, List, ◌∷◌, ◌++◌}
use Rattle.byteorder.specs.Endian.{big_bytes}
use Rattle.tel_entry.specs.declared.header.Header.{Header}
use Rattle.tel_entry.specs.declared.entry.Entry.{Entry}

-- numbers of two, four and eight bytes
unfoldable pub u16_bytes : ℕ → List ℕ
u16_bytes n = big_bytes 2 n

unfoldable pub u32_bytes : ℕ → List ℕ
u32_bytes n = big_bytes 4 n

unfoldable pub u64_bytes : ℕ → List ℕ
u64_bytes n = big_bytes 8 n

-- how many bytes a header and an entry have
abbrev pub header_len : ℕ
header_len = 36

abbrev pub entry_len : ℕ
entry_len = 28

-- a header: source 8, label 2, order 1, flags 1, epoch 8, entries 4, props 4, previous 8
abbrev pub header_bytes : Header → List ℕ
header_bytes h =
    u64_bytes h.source ++ (u16_bytes h.label ++ (h.order ∷ (h.flags ∷
    (u64_bytes h.epoch ++ (u32_bytes h.entries ++ (u32_bytes h.props ++ u64_bytes h.previous))))))

-- an entry: destination 8, created 8, ended 8, length of its payload 4
abbrev pub entry_bytes : Entry → List ℕ
entry_bytes e = u64_bytes e.d ++ (u64_bytes e.created ++ (u64_bytes e.ended ++ u32_bytes e.len))

-- The fields of a header hold its numbers.
pub record HeaderFits (h : Header) : Type 0 where
  pub source : h.source < 2 ^ 64
  pub label : h.label < 2 ^ 16
  pub order : h.order < 2 ^ 8
  pub flags : h.flags < 2 ^ 8
  pub epoch : h.epoch < 2 ^ 64
  pub entries : h.entries < 2 ^ 32
  pub props : h.props < 2 ^ 32
  pub previous : h.previous < 2 ^ 64

-- The fields of an entry hold its numbers.
pub record EntryFits (e : Entry) : Type 0 where
  pub d : e.d < 2 ^ 64
  pub created : e.created < 2 ^ 64
  pub ended : e.ended < 2 ^ 64
  pub len : e.len < 2 ^ 32
