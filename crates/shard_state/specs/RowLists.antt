-- The rows of a shard as a list, in the form in which a part of the core has them.
use Rattle.std.specs.Prelude.{ℕ, ◌+◌, ◌*◌, nat_lt, if◌then◌else◌, List, [], ◌∷◌, ◌++◌, length, Option, Some, None}
use Rattle.core_states.specs.Parts.{VertexRow as ListedRow}
use Rattle.edge_log.specs.Contents.{LogContent}
use Rattle.vertex_rows.specs.declared.vertex_row.VertexRow.{VertexRow}
use Rattle.vertex_rows.specs.RowIn.{row_over}
use Rattle.shard_state.specs.declared.shard.Shard.{Shard}

-- the row at a place, with its vertex
abbrev pub listed : {L R : Type 0} → (L → R → LogContent) → Shard L R → ℕ → VertexRow L → ListedRow
listed content shard n row = record { vertex = n * shard.shards + shard.number; row = row_over content row shard.room }

-- the rows that the vector of near places keeps from a place on
abbrev pub near_rows : {L R : Type 0} → (L → R → LogContent) → Shard L R → ℕ → List (Option (VertexRow L)) → List ListedRow
near_rows content shard n [] = []
near_rows content shard n (None ∷ rows) = near_rows content shard (n + 1) rows
near_rows content shard n (Some row ∷ rows) = listed content shard n row ∷ near_rows content shard (n + 1) rows

-- and those of the map of far places, which are all behind the vector
abbrev pub far_rows : {L R : Type 0} → (L → R → LogContent) → Shard L R → ℕ → List (ℕ × VertexRow L) → List ListedRow
far_rows content shard behind [] = []
far_rows content shard behind (e ∷ entries) =
    if nat_lt e.0 behind then far_rows content shard behind entries
    else listed content shard e.0 e.1 ∷ far_rows content shard behind entries

-- All rows that a shard keeps.
abbrev pub rows_listed : {L R : Type 0} → (L → R → LogContent) → Shard L R → List ListedRow
rows_listed content shard =
    near_rows content shard 0 shard.rows.near.items ++ far_rows content shard (length shard.rows.near.items) shard.rows.far.entries
