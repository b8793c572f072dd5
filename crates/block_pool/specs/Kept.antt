-- What a chunk keeps: its length, and cells that hold its tree.
use Rattle.std.specs.Prelude.{◌≡◌, ◌+◌, ◌^◌, ◌≤◌, IsTrue, length, vec_len}
use Rattle.block_pool.specs.Blocks.{len_of}
use Rattle.block_pool.specs.Trees.{fits, is_joined}
use Rattle.block_pool.specs.Cells.{Holds, tree_of}
use Rattle.block_pool.specs.Pools.{order_most}
use Rattle.block_pool.specs.declared.chunk.Chunk.TheInside.{Inside}

pub record IsKept (a : Inside) : Type 0 where
  pub within : a.order ≤ order_most
  pub long : length a.bytes.items ≡ len_of a.order
  pub cells : 2 ^ (a.order + 1) ≤ vec_len a.cells + 1
  pub holds : Holds a.order a.cells.items (tree_of a.order a.cells.items)
  pub cut : IsTrue (fits a.order (tree_of a.order a.cells.items))
  pub joined : IsTrue (is_joined (tree_of a.order a.cells.items))
