-- What an index keeps: its leaves, of which those behind the noted ones are 0.
use Rattle.std.specs.Prelude.{ℕ, ◌≡◌, ◌+◌, ◌^◌, ◌<◌, ◌≤◌, List, take, slice_index, vec_len}
use Rattle.block_pool.specs.Index.{leaves_of, IsIndex}
use Rattle.block_pool.specs.declared.index.Index.TheInside.{Inside}

abbrev pub noted : Inside → List ℕ
noted a = take a.len (leaves_of a.depth a.cells.items)

pub record IsKeptIndex (a : Inside) : Type 0 where
  pub depth : a.depth ≤ 32
  pub index : IsIndex a.depth a.cells.items
  pub len : a.len ≤ 2 ^ a.depth
  pub long : 0 < a.len → vec_len a.cells + 1 ≡ 2 ^ (a.depth + 1)
  pub blank : (k : ℕ) → a.len ≤ k → slice_index (leaves_of a.depth a.cells.items) k ≡ 0
