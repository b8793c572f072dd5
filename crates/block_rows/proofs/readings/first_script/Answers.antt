use Rattle.std.proofs.Common.{[], ◌∷◌, refl, arith}
use Rattle.stamps.specs.declared.stamp.Stamp.TheVariants.{Never, At}
use Rattle.edge_log.specs.Entries.{Entry}
use Rattle.tel_entry.specs.Layouts.{u32_bytes, u64_bytes}
use Rattle.block_layout.specs.Rows.{HasRow}
use Rattle.block_rows.proofs.readings.first_script.Goals as goal

-- the edge to 9, and then that to 7
abbrev nine : Entry
nine = record { d = 9; p = 255 ∷ []; created = At 1; ended = Never }

abbrev seven : Entry
seven = record { d = 7; p = []; created = At 1; ended = Never }

row_of_nine : HasRow nine
row_of_nine = record { d = omega arith; created = (omega arith, omega arith); ended = tt; len = omega arith }

row_of_seven : HasRow seven
row_of_seven = record { d = omega arith; created = (omega arith, omega arith); ended = tt; len = omega arith }

pub returns-clause-end : goal.returns-clause-end
unfolding u32_bytes u64_bytes
returns-clause-end c = (
  seven ∷ (nine ∷ []),
  (record { fit = (row_of_seven, (row_of_nine, tt)); within = omega arith; payloads = refl; rows = refl }, record { within = omega arith; props = refl }),
)

pub returns-clause-first : goal.returns-clause-first
unfolding u32_bytes u64_bytes
returns-clause-first c = (
  seven ∷ (nine ∷ []),
  (record { fit = (row_of_seven, (row_of_nine, tt)); within = omega arith; payloads = refl; rows = refl }, record { within = omega arith; props = refl }),
)
