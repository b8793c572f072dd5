-- The groups that tests append.
use Rattle.std.specs.Prelude.{◌≡◌, ℕ, List, [], ◌∷◌}
use Rattle.graph_model.specs.declared.change.Change.TheVariants.{New}
use Rattle.graph_model.specs.declared.record.Record.{Record}
use Rattle.group_commit.specs.Encoded.{Encoded}

-- the record by which a transaction makes the vertex of its number, with a payload of one byte
abbrev pub vertex_record : ℕ → ℕ → ℕ → Record
vertex_record epoch tid byte = record { tid = tid; read = 0; epoch = epoch; changes = New tid (byte ∷ []) ∷ [] }

-- The members of a group of that record alone.
abbrev pub IsVertex : ℕ → ℕ → List Encoded → Type 0
IsVertex tid byte members = (bytes : List ℕ) × (members ≡ record { draft = vertex_record 0 tid byte; bytes = bytes } ∷ [])
