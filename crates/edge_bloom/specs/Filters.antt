-- What a filter holds: a set of bits, in which each destination has three.
use Rattle.std.specs.Prelude.{ℕ, ◌≡◌, ◌*◌, ◌/◌, ◌%◌, ◌^◌, ◌≤◌, Bool, ◌&&◌, ◌||◌, ◌==◌, List, length, slice_index}
use Rattle.std.specs.List.{list_any}
use Rattle.std.specs.Int.{w64, bit_at, rotate_left, IsPowerOfTwo}

-- The bytes are a filter: their number is a power of two, from 32 to 2^27.
pub record IsFilter (filter : List ℕ) : Type 0 where
  pub power : IsPowerOfTwo (length filter)
  pub least : 32 ≤ length filter
  pub most : length filter ≤ 2 ^ 27

-- how many bits a filter has: eight to a byte
abbrev pub bits_of : List ℕ → ℕ
bits_of filter = 8 * length filter

-- The bit at a place is set. Place b is in byte b / 8, at the value 2 ^ (b % 8).
abbrev pub is_set : List ℕ → ℕ → Bool
is_set filter b = bit_at (slice_index filter (b / 8)) (b % 8) == 1

-- a destination, mixed: its product with an odd number, of whose bits the high ones depend on all of its own
abbrev pub mixed : ℕ → ℕ
mixed d = d * 0x9E3779B97F4A7C15 % 2 ^ 64

-- the top bits of a number of 64 bits, as many as name m places: k of them where m is 2 ^ k
abbrev pub top_bits : ℕ → ℕ → ℕ
top_bits m x = x / (2 ^ 64 / m)

-- the three places of a destination among m
abbrev pub first_place : ℕ → ℕ → ℕ
first_place m d = top_bits m (mixed d)

abbrev pub second_place : ℕ → ℕ → ℕ
second_place m d = top_bits m (rotate_left w64 (mixed d) 21)

abbrev pub third_place : ℕ → ℕ → ℕ
third_place m d = top_bits m (rotate_left w64 (mixed d) 42)

abbrev pub is_place_of : ℕ → ℕ → ℕ → Bool
is_place_of m d b = first_place m d == b || (second_place m d == b || third_place m d == b)

-- all three bits of a destination are set
abbrev pub holds : List ℕ → ℕ → Bool
holds filter d =
    is_set filter (first_place (bits_of filter) d)
    && (is_set filter (second_place (bits_of filter) d) && is_set filter (third_place (bits_of filter) d))

-- A filter has the bits of these destinations, and no others.
abbrev pub HasBitsOf : List ℕ → List ℕ → Type 0
HasBitsOf filter ds = (b : ℕ) → is_set filter b ≡ list_any (λ d. is_place_of (bits_of filter) d b) ds
