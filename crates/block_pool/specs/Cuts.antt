-- The first free block of an order, cut.
use Rattle.std.specs.Prelude.{ℕ, ◌≡◌, ◌-◌, not, ◌==◌, true, List, ◌∷◌, ◌++◌}
use Rattle.std.specs.List.{list_all}
use Rattle.block_pool.specs.Blocks.{Area, upper_halves, HasOneMore}
use Rattle.block_pool.specs.Pools.{ChunkContent, free_blocks, out_blocks, shapes}

-- The first free block of its order is cut down to an order, and its upper halves stay free.
pub record IsCut (f : Area) (order : ℕ) (old new : List Area) : Type 0 where
  pub before : List Area
  pub after : List Area
  pub old_is : old ≡ before ++ f ∷ after
  pub new_is : new ≡ before ++ (upper_halves f.chunk f.start order (f.order - order) ++ after)
  pub first : list_all (λ g. not (g.order == f.order)) before ≡ true

-- A block of an order was taken from the first free block of another order.
pub record CutsFirst (from order : ℕ) (old : List ChunkContent) (b : Area) (new : List ChunkContent) : Type 0 where
  pub chosen : Area
  pub of_order : chosen.order ≡ from
  pub free : IsCut chosen order (free_blocks old) (free_blocks new)
  pub block : b ≡ record { chunk = chosen.chunk; start = chosen.start; order = order }
  pub out : HasOneMore b (out_blocks old) (out_blocks new)
  pub kept : shapes new ≡ shapes old
