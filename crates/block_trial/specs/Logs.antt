-- A log in a block, whatever its edges are.
use Rattle.std.specs.Prelude.{◌≡◌, ℕ, ◌+◌, ◌*◌, List, length}
use Rattle.edge_log.specs.Entries.{Entry, payload_sum}
use Rattle.edge_log.specs.declared.place.Place.{Place}
use Rattle.edge_log.specs.Places.{IsPlaceIn}
use Rattle.tel_entry.specs.declared.header.Header.{Header}
use Rattle.block_layout.specs.Sizes.{props_start}
use Rattle.block_layout.specs.Blocks.{HoldsEntries, IsBlock}
use Rattle.block_reading.specs.Past.{ArePast}

-- how many bytes a block of an order needs for so many edges with payloads of 8 bytes
abbrev pub needed : ℕ → ℕ → ℕ
needed order edges = props_start order + 36 * edges

-- The bytes are a block of this order, with so many entries and payload bytes.
pub record IsLog (order n sum : ℕ) (bytes : List ℕ) : Type 0 where
  pub header : Header
  pub filter : List ℕ
  pub edges : List Entry
  pub block : IsBlock order header filter edges bytes
  pub entries : length edges ≡ n
  pub props : payload_sum edges ≡ sum

-- The bytes hold the entries of a log, of which this is a place, and all of them are of the past at the epoch 5.
abbrev pub HasPastPlace : ℕ → Place → List ℕ → Type 0
HasPastPlace start place bytes = (xs : List Entry) × (HoldsEntries start xs bytes × (IsPlaceIn xs place × ArePast 5 xs))
