-- What the value of the log's turn shows.
use Rattle.std.specs.Prelude.{ℕ, Bool, true, false, List, Option, Some, None}
use Rattle.graph_model.specs.declared.record.Record.{Record}
use Rattle.graph_wal.specs.declared.wal.Attempt.{Attempt}
use Rattle.graph_wal.specs.declared.wal.Attempt.TheVariants as attempts
use Rattle.graph_wal.specs.declared.wal.Wal.{Wal}
use Rattle.core_states.specs.LogParts.{LogPart, Found}
use Rattle.store_log.specs.Written.{Origin, Written, firmness_of}

-- the core's log part, which nobody holds; the log on its disk; and what is noted of it
pub record LogValue (D : Type 0) : Type 0 where
  pub log : LogPart
  pub wal : Wal D
  pub written : Written

-- whether no attempt stands
abbrev pub is_mended : Attempt → Bool
is_mended attempts.Mended = true
is_mended attempts.Untouched = false
is_mended attempts.Touched = false

-- records, where the disk tells its bytes
abbrev pub where_told : Option (List ℕ) → List Record → Option (List Record)
where_told None records = None
where_told (Some bytes) records = Some records

-- what a run finds of a log's disk, on which this stands
abbrev pub found_on : {D : Type 0} → (D → Option (List ℕ)) → (D → ℕ) → D → Origin → Found
found_on told faults disk origin = record { count = faults disk; firm = firmness_of origin; records = where_told (told disk) origin.base }
