-- How a chunk is cut into blocks: by halves.
use Rattle.std.specs.Prelude.{ℕ, zero, suc, ◌+◌, Bool, true, false, ◌&&◌, not, List, [], ◌∷◌, ◌++◌}
use Rattle.block_pool.specs.Blocks.{Area, len_of}

-- a part of a chunk: a free block, a block that is out, or two halves
pub data Tree : Type 0 where
  Free : Tree
  Out : Tree
  Split : (lower upper : Tree) → Tree

-- a part of this order can be cut so: a block of order 0 has no halves
abbrev pub fits : ℕ → Tree → Bool
fits o Free = true
fits o Out = true
fits zero (Split l u) = false
fits (suc o) (Split l u) = fits o l && fits o u

-- the free blocks of a part of order o from the byte s on, by their starts
abbrev pub free_of : ℕ → ℕ → ℕ → Tree → List Area
free_of c o s Free = record { chunk = c; start = s; order = o } ∷ []
free_of c o s Out = []
free_of c zero s (Split l u) = []
free_of c (suc o) s (Split l u) = free_of c o s l ++ free_of c o (s + len_of o) u

-- the blocks of it that are out, by their starts
abbrev pub out_of : ℕ → ℕ → ℕ → Tree → List Area
out_of c o s Free = []
out_of c o s Out = record { chunk = c; start = s; order = o } ∷ []
out_of c zero s (Split l u) = []
out_of c (suc o) s (Split l u) = out_of c o s l ++ out_of c o (s + len_of o) u

abbrev pub is_free : Tree → Bool
is_free Free = true
is_free Out = false
is_free (Split l u) = false

-- no two halves of one block are both free
abbrev pub is_joined : Tree → Bool
is_joined Free = true
is_joined Out = true
is_joined (Split l u) = not (is_free l && is_free u) && (is_joined l && is_joined u)
