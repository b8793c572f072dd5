-- What is noted of the entries of a log.
use Rattle.std.specs.Prelude.{◌≡◌, ℕ, ◌+◌, ◌^◌, ◌<◌, ◌≤◌, List, [], ◌∷◌, length, map, get_or, vec_len, vec_capacity}
use Rattle.edge_log.specs.Entries.{Entry, payload_sum}
use Rattle.place_index.specs.declared.place_index.PlaceIndex.{PlaceIndex}
use Rattle.place_index.specs.Chains.{IsIndexOf, HasSlots, places_of, room_of}
use Rattle.block_index.specs.declared.notes.Notes.{Notes}

-- where entries lead to
abbrev pub destinations : List Entry → List ℕ
destinations xs = map (λ x. x.d) xs

-- The places are those of the destinations of these entries.
abbrev pub IsIndexed : PlaceIndex → List Entry → Type 0
IsIndexed places xs = IsIndexOf places (destinations xs)

-- For each entry, the numbers tell how many bytes the payloads of the older ones have.
abbrev pub TellProps : List ℕ → List Entry → Type 0
TellProps props [] = Unit {0}
TellProps props (x ∷ xs) = (get_or props (length xs) 0 ≡ payload_sum xs) × TellProps props xs

-- They tell it of these entries, and of no more.
abbrev pub AreProps : List ℕ → List Entry → Type 0
AreProps props xs = (length props ≡ length xs) × TellProps props xs

-- These entries are noted.
pub record AreNoted (notes : Notes) (xs : List Entry) : Type 0 where
  pub places : IsIndexed notes.places xs
  pub props : AreProps notes.props.items xs

-- There is room for the notes of so many.
abbrev pub HasRoomFor : ℕ → Notes → Type 0
HasRoomFor n notes = (n ≤ room_of notes.places) × (n ≤ vec_capacity notes.props)

-- There is room for one more.
pub record MayNote (notes : Notes) : Type 0 where
  pub slots : HasSlots notes.places
  pub places : places_of notes.places < room_of notes.places
  pub few : places_of notes.places + 1 < 2 ^ 32
  pub props : vec_len notes.props < vec_capacity notes.props
