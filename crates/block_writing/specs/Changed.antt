-- What the end of a transaction makes of entries, where it goes over some alone. Each list has the newest first.
use Rattle.std.specs.Prelude.{ℕ, Bool, ◌||◌, ◌==◌, nat_le, if◌then◌else◌, IsTrue, List, [], ◌∷◌, length}
use Rattle.std.specs.List.{list_any}
use Rattle.stamps.specs.declared.stamp.Stamp.{Stamp}
use Rattle.stamps.specs.Stamps.{is_by}
use Rattle.edge_log.specs.Entries.{Entry, is_entry_of}

-- a stamp, where another one is put in place of a transaction's private one
abbrev pub replaced_stamp : ℕ → Stamp → Stamp → Stamp
replaced_stamp t new s = if is_by t s then new else s

-- an entry, where a transaction's private stamps are replaced, that of its beginning and that of its end
abbrev pub settled_entry : ℕ → Stamp → Stamp → Entry → Entry
settled_entry t created ended x =
    record x { created = replaced_stamp t created x.created; ended = replaced_stamp t ended x.ended }

-- the entries, of which those at the places of a test are changed
abbrev pub changed_where : (ℕ → Bool) → (Entry → Entry) → List Entry → List Entry
changed_where test change [] = []
changed_where test change (x ∷ xs) = (if test (length xs) then change x else x) ∷ changed_where test change xs

-- a place is one of these
abbrev pub is_among : List ℕ → ℕ → Bool
is_among places n = list_any (λ m. m == n) places

-- Each entry that a transaction made or ended privately stands at one of these places, or from a place on.
abbrev pub AreReached : ℕ → List ℕ → ℕ → List Entry → Type 0
AreReached t places from [] = Unit {0}
AreReached t places from (x ∷ xs) =
    (IsTrue (is_entry_of t x) → IsTrue (nat_le from (length xs) || is_among places (length xs)))
    × AreReached t places from xs
