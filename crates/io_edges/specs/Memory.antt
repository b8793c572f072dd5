-- Sources and sinks over memory.
use Rattle.std.specs.Prelude.{◌≡◌, ◌⊎◌, ℕ, ◌<◌, ◌-◌, List, length}
use Rattle.io_edges.specs.Calls.{CallCount, IsNextListed}

-- a source: the bytes still to come, and its calls
pub record MemoryInput : Type 0 where
  pub left : List ℕ
  pub count : CallCount

-- a sink: the bytes written, how many it has room for in all, and its calls
pub record MemoryOutput : Type 0 where
  pub written : List ℕ
  pub room : ℕ
  pub count : CallCount

-- how many more bytes the sink has room for
abbrev pub room_left : MemoryOutput → ℕ
room_left s = s.room - length s.written

-- The next write of a piece fails: it is listed, or no room is left for a piece that is not empty.
abbrev pub PieceFails : MemoryOutput → List ℕ → Type 0
PieceFails s piece = IsNextListed s.count ⊎ ((room_left s ≡ 0) × (0 < length piece))
