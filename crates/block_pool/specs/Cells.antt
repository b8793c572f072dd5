-- How a tree is kept in cells: the cell of a part, then the cells of its lower half, then those of its upper half.
use Rattle.std.specs.Prelude.{ℕ, zero, suc, ◌≡◌, ◌+◌, ◌-◌, ◌^◌, Bool, false, ◌&&◌, ◌||◌, ◌==◌, nat_lt, if◌then◌else◌, bit_or, List, take, drop, slice_index}
use Rattle.std.specs.Int.{bit_at}
use Rattle.block_pool.specs.Trees.{Tree, Free, Out, Split}

-- a cell has the bit of an order
abbrev pub has_bit : ℕ → ℕ → Bool
has_bit cell order = bit_at cell order == 1

-- what the cell of two halves has: bit 31, and the bits of both
abbrev pub both_cells : ℕ → ℕ → ℕ
both_cells a b = bit_or (2 ^ 31) (bit_or a b)

-- The cell of a part of an order: the bit of each order of which it has a free block, and bit 31 where it is cut. A block that is out has 0.
abbrev pub cell_of : ℕ → Tree → ℕ
cell_of o Free = 2 ^ o
cell_of o Out = 0
cell_of zero (Split l u) = 2 ^ 31
cell_of (suc o) (Split l u) = both_cells (cell_of o l) (cell_of o u)

-- how many cells a part of order o has
abbrev pub cells_len : ℕ → ℕ
cells_len o = 2 ^ suc o - 1

-- the cells of the halves of order o
abbrev pub lower_cells : ℕ → List ℕ → List ℕ
lower_cells o cells = take (cells_len o) (drop 1 cells)

abbrev pub upper_cells : ℕ → List ℕ → List ℕ
upper_cells o cells = drop (cells_len o) (drop 1 cells)

-- The cells hold a tree.
abbrev pub Holds : ℕ → List ℕ → Tree → Type 0
Holds o cells Free = slice_index cells 0 ≡ cell_of o Free
Holds o cells Out = slice_index cells 0 ≡ cell_of o Out
Holds zero cells (Split l u) = ⊥
Holds (suc o) cells (Split l u) = (slice_index cells 0 ≡ cell_of (suc o) (Split l u)) × (Holds o (lower_cells o cells) l × Holds o (upper_cells o cells) u)

-- the tree that cells hold
abbrev pub tree_of : ℕ → List ℕ → Tree
tree_of zero cells = if slice_index cells 0 == 0 then Out else Free
tree_of (suc o) cells = if slice_index cells 0 == 0 then Out else if slice_index cells 0 == 2 ^ suc o then Free else Split (tree_of o (lower_cells o cells)) (tree_of o (upper_cells o cells))

-- a part of order o has a free block of order j
abbrev pub has_free : ℕ → ℕ → Tree → Bool
has_free o j Free = o == j
has_free o j Out = false
has_free zero j (Split l u) = false
has_free (suc o) j (Split l u) = has_free o j l || has_free o j u

-- where its first free block of order j begins, in units of 64 bytes
abbrev pub first_unit : ℕ → ℕ → Tree → ℕ
first_unit o j Free = 0
first_unit o j Out = 0
first_unit zero j (Split l u) = 0
first_unit (suc o) j (Split l u) = if has_free o j l then first_unit o j l else 2 ^ o + first_unit o j u

-- a free block whose lower half was cut n times, the last of them out
abbrev pub carved : ℕ → Tree
carved zero = Out
carved (suc n) = Split (carved n) Free

-- a part after its first free block of order j was cut down to an order, and that was taken
abbrev pub taken : ℕ → ℕ → ℕ → Tree → Tree
taken o j order Free = carved (o - order)
taken o j order Out = Out
taken zero j order (Split l u) = Split l u
taken (suc o) j order (Split l u) = if has_free o j l then Split (taken o j order l) u else Split l (taken o j order u)

-- the block of an order at a unit is out
abbrev pub is_out_at : ℕ → ℕ → ℕ → Tree → Bool
is_out_at o order at Free = false
is_out_at o order at Out = o == order && at == 0
is_out_at zero order at (Split l u) = false
is_out_at (suc o) order at (Split l u) = if nat_lt at (2 ^ o) then is_out_at o order at l else is_out_at o order (at - 2 ^ o) u

-- two halves, joined where both are free
abbrev pub joined : Tree → Tree → Tree
joined Free Free = Free
joined Free Out = Split Free Out
joined Free (Split l u) = Split Free (Split l u)
joined Out t = Split Out t
joined (Split l u) t = Split (Split l u) t

-- a part after the block of an order at a unit was given back
abbrev pub given : ℕ → ℕ → ℕ → Tree → Tree
given o order at Free = Free
given o order at Out = Free
given zero order at (Split l u) = Split l u
given (suc o) order at (Split l u) = if nat_lt at (2 ^ o) then joined (given o order at l) u else joined l (given o order (at - 2 ^ o) u)
