-- What a member of a group is.
use Rattle.std.specs.Prelude.{◌≡◌, ℕ, IsTrue, List}
use Rattle.std.specs.List.{list_all}
use Rattle.graph_model.specs.declared.change.Change.{Change}
use Rattle.graph_model.specs.declared.record.Record.{Record}
use Rattle.group_codec.specs.Spelling.{changes_bytes, has_fields}

-- a record whose epoch is not set yet, and the spelling of its changes
pub record Encoded : Type 0 where
  pub draft : Record
  pub bytes : List ℕ

-- The bytes are the spelling of the changes, and the fields of the spelling hold them.
pub record Spells (bytes : List ℕ) (changes : List Change) : Type 0 where
  pub spelling : bytes ≡ changes_bytes changes
  pub fields : IsTrue (list_all has_fields changes)
