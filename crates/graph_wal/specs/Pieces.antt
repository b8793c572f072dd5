-- The pieces in which a group goes to the disk.
use Rattle.std.specs.Prelude.{◌≡◌, ◌≤◌, ℕ, List, [], ◌∷◌, ◌++◌, length, flat_map, Option}
use Rattle.graph_model.specs.Change.{encoded_lens}
use Rattle.graph_model.specs.Records.{transaction_most}
use Rattle.disk_model.specs.Images.{overwritten, ToldBy}
use Rattle.group_codec.specs.Spelling.{u32_bytes, u64_bytes, head_bytes}
use Rattle.group_commit.specs.Encoded.{Encoded, Spells}

-- a member: what stands before its changes, and these
abbrev pub member_bytes : Encoded → List ℕ
member_bytes m = head_bytes m.draft.tid m.draft.read (length m.draft.changes) ++ m.bytes

-- all members, one after another
abbrev pub members_bytes : List Encoded → List ℕ
members_bytes members = flat_map member_bytes members

-- what stands before the members: how long the payload is, its epoch, and how many they are
abbrev pub front_bytes : ℕ → ℕ → ℕ → List ℕ
front_bytes len epoch count = u32_bytes len ++ (u64_bytes epoch ++ u32_bytes count)

-- how many bytes are gathered into one write at most
abbrev pub gathered_most : ℕ
gathered_most = 4096

-- The changes of each member are within the limit of a transaction.
abbrev pub AreWithin : List Encoded → Type 0
AreWithin [] = Unit {0}
AreWithin (m ∷ members) = (encoded_lens m.draft.changes ≤ transaction_most) × AreWithin members

-- The bytes of each member spell its changes.
abbrev pub AreSpelled : List Encoded → Type 0
AreSpelled [] = Unit {0}
AreSpelled (m ∷ members) = Spells m.bytes m.draft.changes × AreSpelled members

-- These bytes were written from a place on, where the disk tells its bytes.
abbrev pub Wrote : Option (List ℕ) → Option (List ℕ) → ℕ → List ℕ → Type 0
Wrote told told' place bytes = ToldBy (λ old new. new ≡ overwritten old place bytes) told told'
