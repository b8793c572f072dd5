-- What a look at a lock row answers.
use Rattle.std.specs.Prelude.{ℕ, ◌==◌, nat_le, if◌then◌else◌, Option, Some, None}
use Rattle.vertex_locks.specs.declared.answer.Look.{Look}
use Rattle.vertex_locks.specs.declared.answer.Look.TheVariants.{Taken, Held, Conflict}

-- Of a row with this owner and this last commit, to a transaction with this read epoch: its own row is taken, another's is held, and a free one is taken unless a commit after the snapshot changed the vertex.
abbrev pub answer_by_owner : Option ℕ → ℕ → ℕ → ℕ → Look
answer_by_owner None committed tid read = if nat_le committed read then Taken else Conflict committed
answer_by_owner (Some owner) committed tid read = if owner == tid then Taken else Held owner
