-- The entries of a block below a place.
use Rattle.std.specs.Prelude.{◌≡◌, ℕ, ◌==◌, if◌then◌else◌, List, Option, Some, None}
use Rattle.edge_log.specs.declared.place.Place.{Place}
use Rattle.edge_log.specs.Entries.{Entry, payload_sum}
use Rattle.edge_log.specs.Places.{IsPlaceIn}
use Rattle.block_layout.specs.Blocks.{HoldsEntries}
use Rattle.block_layout.specs.Reads.{entries_in}

-- the entries below a place, as they are read from the bytes
abbrev pub entries_below : ℕ → Place → List ℕ → List Entry
entries_below start place bytes = entries_in start place.below place.props bytes

-- The bytes hold the entries below a place, whose payloads have as many bytes as it says.
pub record HoldsBelow (start : ℕ) (place : Place) (bytes : List ℕ) : Type 0 where
  pub entries : HoldsEntries start (entries_below start place bytes) bytes
  pub props : payload_sum (entries_below start place bytes) ≡ place.props

-- The bytes hold the entries of a log, of which this is a place.
abbrev pub HasPlace : ℕ → Place → List ℕ → Type 0
HasPlace start place bytes = (xs : List Entry) × (HoldsEntries start xs bytes × IsPlaceIn xs place)

-- where a scan goes on: nowhere where no entry is left
abbrev pub place_at : ℕ → ℕ → Option Place
place_at below props = if below == 0 then None else Some (record { below = below; props = props })
