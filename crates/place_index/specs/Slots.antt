-- Which slot a destination falls into.
use Rattle.std.specs.Prelude.{ℕ, ◌*◌, ◌/◌, ◌%◌, ◌^◌}

-- the top half of a destination's product with an odd number, in which all of its bits have a part
abbrev pub top_half : ℕ → ℕ
top_half d = d * 0x9E3779B97F4A7C15 % 2 ^ 64 / 2 ^ 32

-- its slot among so many: the top halves are spread over them in order
abbrev pub slot_of : ℕ → ℕ → ℕ
slot_of slots d = top_half d * slots / 2 ^ 32
