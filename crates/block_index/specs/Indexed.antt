-- An index of the entries of a log, where it has one.
use Rattle.std.specs.Prelude.{◌≡◌, ℕ, ◌-◌, ◌/◌, ◌<◌, List, [], length, IfSome, MatchOption}
use Rattle.edge_log.specs.Entries.{Entry}
use Rattle.tel_entry.specs.Layouts.{entry_len}
use Rattle.block_layout.specs.Sizes.{block_len, props_start}
use Rattle.place_index.specs.Chains.{HasSlots, GoesDown, places_of}
use Rattle.block_index.specs.Noted.{AreNoted, HasRoomFor, MayNote}
use Rattle.block_index.specs.declared.entry_index.EntryIndex.{EntryIndex}

-- It is one of these entries.
abbrev pub Indexes : EntryIndex → List Entry → Type 0
Indexes index xs = IfSome index.notes (λ notes. AreNoted notes.value xs)

-- from so many entries on a log has an index: those for which a block of order 7 has room
abbrev pub least_indexed : ℕ
least_indexed = 273

-- It has room for so many, and only where they are fewer than those from which on there is an index, there is none.
abbrev pub HasRoom : ℕ → EntryIndex → Type 0
HasRoom n index = MatchOption index.notes (n < least_indexed) (λ notes. HasRoomFor n notes.value)

-- how many entries a block of an order has room for
abbrev pub most_in : ℕ → ℕ
most_in order = (block_len order - props_start order) / entry_len

-- It is one of no entries, with room for as many as the block has.
abbrev pub IsFresh : ℕ → EntryIndex → Type 0
IsFresh order index = Indexes index [] × HasRoom (most_in order) index

-- It has room for one entry more.
abbrev pub MayPush : EntryIndex → Type 0
MayPush index = IfSome index.notes (λ notes. MayNote notes.value)

abbrev pub MayTakeBack : EntryIndex → Type 0
MayTakeBack index = IfSome index.notes (λ notes. HasSlots notes.value.places)

-- It is one of so many entries, and its chains go down.
abbrev pub MayFind : ℕ → EntryIndex → Type 0
MayFind n index =
    IfSome index.notes (λ notes.
    HasSlots notes.value.places
    × GoesDown notes.value.places
    × (places_of notes.value.places ≡ n)
    × (length notes.value.props.items ≡ n))
