-- What an index keeps of its nodes.
use Rattle.std.specs.Prelude.{ℕ, ◌≡◌, ◌+◌, ◌≤◌, take, drop, get_or, vec_len}
use Rattle.reader_table.specs.Leasts.{nothing}
use Rattle.reader_table.specs.Nodes.{Leaves, IsGathered}
use Rattle.reader_table.specs.declared.index.Index.TheInside.{Inside}

-- the leaves that stand for rows, which come first
abbrev pub leaves_of : Inside → Leaves
leaves_of a = record { rows = take a.len (drop a.room a.nodes.items); room = a.room }

-- The nodes are gathered, and the leaves behind those of rows have nothing.
pub record IsKept (a : Inside) : Type 0 where
  pub long : vec_len a.nodes ≡ a.room + a.room
  pub len : a.len ≤ a.room
  pub gathered : IsGathered 0 a.nodes.items
  pub blank : (k : ℕ) → a.len ≤ k → get_or (drop a.room a.nodes.items) k nothing ≡ nothing
