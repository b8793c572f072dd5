-- Blocks: parts of a chunk, whose lengths are 64 times a power of two.
use Rattle.std.specs.Prelude.{ℕ, zero, suc, ◌≡◌, ◌+◌, ◌*◌, ◌^◌, Bool, ◌||◌, not, ◌==◌, nat_le, List, [], ◌∷◌, ◌++◌}

-- a block in a chunk, from the byte `start` on; its order says how long it is
pub record Area : Type 0 where
  pub chunk : ℕ
  pub start : ℕ
  pub order : ℕ

-- the bytes of a block of an order
abbrev pub len_of : ℕ → ℕ
len_of order = 64 * 2 ^ order

-- where a block ends
abbrev pub area_end : Area → ℕ
area_end a = a.start + len_of a.order

-- no byte is in both blocks
abbrev pub are_apart : Area → Area → Bool
are_apart a b = not (a.chunk == b.chunk) || (nat_le (area_end a) b.start || nat_le (area_end b) a.start)

-- What is left of a block whose lower half was cut n times, down to an order: the upper halves, by their starts.
abbrev pub upper_halves : ℕ → ℕ → ℕ → ℕ → List Area
upper_halves chunk start order zero = []
upper_halves chunk start order (suc n) = upper_halves chunk start order n ++ (record { chunk = chunk; start = start + len_of (order + n); order = order + n } ∷ [])

-- The second list is the first with one block more, at some place.
pub record HasOneMore (b : Area) (old new : List Area) : Type 0 where
  pub before : List Area
  pub after : List Area
  pub old_is : old ≡ before ++ after
  pub new_is : new ≡ before ++ b ∷ after
