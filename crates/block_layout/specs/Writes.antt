-- What is written to a block, and what it makes of the entries.
use Rattle.std.specs.Prelude.{ℕ, ◌+◌, ◌==◌, if◌then◌else◌, List, [], ◌∷◌, ◌++◌, length, take, drop}
use Rattle.stamps.specs.declared.stamp.Stamp.{Stamp}
use Rattle.edge_log.specs.Entries.{Entry}

-- the bytes, where those from a place on are these
abbrev pub overwritten : ℕ → List ℕ → List ℕ → List ℕ
overwritten from new bytes = take from bytes ++ (new ++ drop (from + length new) bytes)

-- the entries, where that at a place has this stamp as its beginning
abbrev pub created_as : ℕ → Stamp → List Entry → List Entry
created_as n s [] = []
created_as n s (x ∷ xs) = if n == length xs then record x { created = s } ∷ xs else x ∷ created_as n s xs

-- the entries, where that at a place has this stamp as its end
abbrev pub ended_as : ℕ → Stamp → List Entry → List Entry
ended_as n s [] = []
ended_as n s (x ∷ xs) = if n == length xs then record x { ended = s } ∷ xs else x ∷ ended_as n s xs

-- the entries, where that at a place is this one
abbrev pub with_entry : ℕ → Entry → List Entry → List Entry
with_entry n y [] = []
with_entry n y (x ∷ xs) = if n == length xs then y ∷ xs else x ∷ with_entry n y xs
