-- The index of the chunks: a list of cells, with a tree above it that tells where a bit is first set.
use Rattle.std.specs.Prelude.{ℕ, zero, suc, ◌≡◌, bit_or, List, [], ◌∷◌, ◌++◌, slice_index}
use Rattle.block_pool.specs.Cells.{lower_cells, upper_cells}

-- the cells of an index of depth d, from left to right
abbrev pub leaves_of : ℕ → List ℕ → List ℕ
leaves_of zero cells = slice_index cells 0 ∷ []
leaves_of (suc d) cells = leaves_of d (lower_cells d cells) ++ leaves_of d (upper_cells d cells)

-- Each cell above the leaves has the bits of the two below it.
abbrev pub IsIndex : ℕ → List ℕ → Type 0
IsIndex zero cells = Unit {0}
IsIndex (suc d) cells = (slice_index cells 0 ≡ bit_or (slice_index (lower_cells d cells) 0) (slice_index (upper_cells d cells) 0)) × (IsIndex d (lower_cells d cells) × IsIndex d (upper_cells d cells))
