-- The room that a transaction has for a note of a change, before anything is changed.
use Rattle.std.specs.Prelude.{◌≡◌, ℕ, ◌+◌, ◌<◌, ◌^◌, if◌then◌else◌, List, [], ◌∷◌, length}
use Rattle.graph_model.specs.declared.change.Change.{Change}
use Rattle.graph_model.specs.Change.{vertex_of}
use Rattle.core_states.specs.Numbers.{has_number}
use Rattle.core_states.specs.declared.transaction.NoteRoom.{NoteRoom}
use Rattle.core_states.specs.declared.transaction.Transaction.{Transaction}

-- the vertex, where it is not among these yet
abbrev pub untouched : ℕ → List ℕ → List ℕ
untouched v xs = if has_number v xs then [] else v ∷ []

-- The room has the change, and its vertex where the transaction has not taken it; and it fits in.
pub record IsNoteRoom (x : Transaction) (c : Change) (room : NoteRoom) : Type 0 where
  pub touched : room.touched ≡ untouched (vertex_of c) x.touched
  pub own : room.own ≡ c ∷ []
  pub few : length x.touched + 1 < 2 ^ 63
