-- The entries of a log as the 28 bytes and the payload that each has in a block. Each list of entries has the newest first.
use Rattle.std.specs.Prelude.{ℕ, ◌^◌, ◌<◌, ◌≤◌, List, [], ◌∷◌, ◌++◌, length}
use Rattle.std.specs.List.{AllByRecursion}
use Rattle.graph_model.specs.Payload.{payload_most}
use Rattle.edge_log.specs.Entries.{Entry}
use Rattle.tel_entry.specs.declared.entry.Entry.{Entry as RawEntry}
use Rattle.tel_entry.specs.Layouts.{entry_bytes}
use Rattle.tel_entry.specs.RawStamps.{raw_of, HasRaw}

-- an entry as the numbers that stand in its 28 bytes
abbrev pub raw_entry : Entry → RawEntry
raw_entry x = record { d = x.d; created = raw_of x.created; ended = raw_of x.ended; len = length x.p }

-- A block can hold the entry: numbers stand for its stamps, its destination has 64 bits, and its payload is one of a store.
pub record HasRow (x : Entry) : Type 0 where
  pub d : x.d < 2 ^ 64
  pub created : HasRaw x.created
  pub ended : HasRaw x.ended
  pub len : length x.p ≤ payload_most

abbrev pub HaveRows : List Entry → Type 0
HaveRows xs = AllByRecursion HasRow xs

-- the bytes of entries, the newest first
abbrev pub rows_of : List Entry → List ℕ
rows_of [] = []
rows_of (x ∷ xs) = entry_bytes (raw_entry x) ++ rows_of xs

-- their payloads one after another, the oldest first
abbrev pub payloads_of : List Entry → List ℕ
payloads_of [] = []
payloads_of (x ∷ xs) = payloads_of xs ++ x.p
