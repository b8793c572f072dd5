-- What an index keeps of the destinations of a log. Each list of destinations has the newest first, so that a place is the number of those behind it.
use Rattle.std.specs.Prelude.{◌≡◌, ℕ, ◌+◌, ◌-◌, ◌^◌, ◌<◌, ◌≤◌, ◌==◌, if◌then◌else◌, List, [], ◌∷◌, length, get_or, Option, Some, None, vec_len, vec_capacity}
use Rattle.place_index.specs.Slots.{slot_of}
use Rattle.place_index.specs.declared.place_index.PlaceIndex.{PlaceIndex}

-- up to which of these destinations one falls into a slot, counted from the oldest: 0 where none does
abbrev pub last_in : ℕ → ℕ → List ℕ → ℕ
last_in slots s [] = 0
last_in slots s (d ∷ ds) = if slot_of slots d == s then length ds + 1 else last_in slots s ds

-- the last of so many places: none of none
abbrev pub place_up_to : ℕ → Option ℕ
place_up_to n = if n == 0 then None else Some (n - 1)

-- For each destination, the numbers tell up to which of the older ones another falls into its slot.
abbrev pub AreOlder : ℕ → List ℕ → List ℕ → Type 0
AreOlder slots older [] = Unit {0}
AreOlder slots older (d ∷ ds) = (get_or older (length ds) 0 ≡ last_in slots (slot_of slots d) ds) × AreOlder slots older ds

-- how many slots an index has
abbrev pub slots_of : PlaceIndex → ℕ
slots_of index = length index.newest.items

-- how many places it has
abbrev pub places_of : PlaceIndex → ℕ
places_of index = vec_len index.older

-- how many places it has room for
abbrev pub room_of : PlaceIndex → ℕ
room_of index = vec_capacity index.older

-- It has slots, as few as their numbers want.
abbrev pub HasSlots : PlaceIndex → Type 0
HasSlots index = (0 < slots_of index) × (slots_of index ≤ 2 ^ 31)

-- An index of a log with these destinations.
pub record IsIndexOf (index : PlaceIndex) (ds : List ℕ) : Type 0 where
  pub has_slots : HasSlots index
  pub count : length index.older.items ≡ length ds
  pub newest : (s : ℕ) → s < slots_of index → get_or index.newest.items s 0 ≡ last_in (slots_of index) s ds
  pub older : AreOlder (slots_of index) index.older.items ds

-- Each chain goes down from a place that there is to older ones.
pub record GoesDown (index : PlaceIndex) : Type 0 where
  pub newest : (s : ℕ) → s < slots_of index → get_or index.newest.items s 0 ≤ length index.older.items
  pub older : (n : ℕ) → n < length index.older.items → get_or index.older.items n 0 ≤ n
