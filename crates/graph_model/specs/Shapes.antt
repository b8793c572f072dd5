-- The bytes of a payload, by where they lie.
use Rattle.std.specs.Prelude.{ℕ, List, length, take, ◌≤◌}
use Rattle.std.specs.Arc.{arc_slice_items}
use Rattle.graph_model.specs.Payload.{payload_most, short_most}
use Rattle.graph_model.specs.declared.payload.Shape.{Shape}
use Rattle.graph_model.specs.declared.payload.Shape.TheVariants as shape

-- the bytes themselves
abbrev pub bytes_in : Shape → List ℕ
bytes_in (shape.Short len bytes) = take len bytes
bytes_in (shape.Long bytes) = arc_slice_items bytes

-- that there are not too many
abbrev pub IsKept : Shape → Type 0
IsKept (shape.Short len bytes) = len ≤ short_most
IsKept (shape.Long bytes) = length (arc_slice_items bytes) ≤ payload_most
