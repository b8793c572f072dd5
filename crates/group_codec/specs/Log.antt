-- What a log says: its text, the records that it recovers to, and its first bad group.
use Rattle.std.specs.Prelude.{◌≡◌, ◌≢◌, ◌⊎◌, ℕ, ◌+◌, Bool, true, ◌&&◌, IsTrue, List, [], ◌∷◌, ◌++◌, length, flat_map}
use Rattle.graph_model.specs.declared.record.Record.{Record}
use Rattle.graph_model.specs.Records.{Lawful}
use Rattle.group_codec.specs.declared.decoded.CodecRefusal.{CodecRefusal}
use Rattle.group_codec.specs.declared.decoded.CodecRefusal.TheVariants.{NoMemory, BadGroup}
use Rattle.group_codec.specs.Spelling.{group_bytes, is_group}

-- the eight bytes that a log begins with: TELLOG1 and a newline
abbrev pub log_head : List ℕ
log_head = 84 ∷ 69 ∷ 76 ∷ 76 ∷ 79 ∷ 71 ∷ 49 ∷ 10 ∷ []

-- groups of the epochs that follow this one, each behind an open gate
abbrev pub groups_bytes : ℕ → List (List Record) → List ℕ
groups_bytes epoch [] = []
groups_bytes epoch (g ∷ groups) = 1 ∷ (group_bytes (epoch + 1) g ++ groups_bytes (epoch + 1) groups)

-- each can be spelled as the group of its epoch
abbrev pub are_groups : ℕ → List (List Record) → Bool
are_groups epoch [] = true
are_groups epoch (g ∷ groups) = is_group (epoch + 1) g && are_groups (epoch + 1) groups

-- a log of these groups up to its last gate: the eight bytes, and an open gate before each group
abbrev pub log_bytes : List (List Record) → List ℕ
log_bytes groups = log_head ++ groups_bytes 0 groups

-- the records of groups, in order
abbrev pub records_of : List (List Record) → List Record
records_of groups = flat_map (λ g. g) groups

-- The bytes are a log of these groups: behind the last one a gate that is not open, and then any rest.
pub record LogText (bytes : List ℕ) (groups : List (List Record)) (gate : ℕ) (rest : List ℕ) : Type 0 where
  pub spelled : IsTrue (are_groups 0 groups)
  pub closed : gate ≢ 1
  pub text : bytes ≡ log_bytes groups ++ gate ∷ rest

-- The bytes are a log of these lawful records, whose durable length is the place behind its closed gate.
abbrev pub Recovers : List ℕ → List Record → ℕ → Type 0
Recovers bytes records durable =
    (groups : List (List Record)) × (gate : ℕ) × (rest : List ℕ)
    × LogText bytes groups gate rest × Lawful records × (records ≡ records_of groups) × (durable ≡ length (log_bytes groups) + 1)

-- no log begins so: fewer than nine bytes, or other first eight
abbrev pub NoHead : List ℕ → Type 0
NoHead bytes = (gate : ℕ) (rest : List ℕ) → bytes ≡ log_head ++ gate ∷ rest → ⊥

-- Behind these groups stands no further one, with a gate behind it, that the records may go on with.
abbrev pub NoGroup : List (List Record) → List ℕ → Type 0
NoGroup groups bytes =
    (g : List Record) (gate : ℕ) (rest : List ℕ) → bytes ≡ group_bytes (length groups + 1) g ++ gate ∷ rest →
    IsTrue (is_group (length groups + 1) g) → Lawful (records_of groups ++ g) → ⊥

-- The bytes are lawful groups and then an open gate, behind which no group may stand.
pub record IsBadBehind (bytes : List ℕ) (groups : List (List Record)) (rest : List ℕ) : Type 0 where
  pub spelled : IsTrue (are_groups 0 groups)
  pub lawful : Lawful (records_of groups)
  pub text : bytes ≡ log_bytes groups ++ 1 ∷ rest
  pub bad : NoGroup groups rest

-- The first bad group has this number, from 1, and its length would stand at this place; what does not
-- begin as a log is bad at place 0, group 0.
abbrev pub FirstBad : List ℕ → ℕ → ℕ → Type 0
FirstBad bytes place group =
    (NoHead bytes × (place ≡ 0) × (group ≡ 0))
    ⊎ ((groups : List (List Record)) × (rest : List ℕ)
    × IsBadBehind bytes groups rest × (place ≡ length (log_bytes groups) + 1) × (group ≡ length groups + 1))

-- why decoding refuses: want of memory, or the first bad group
abbrev pub IsCause : CodecRefusal → List ℕ → Type 0
IsCause NoMemory bytes = Unit {0}
IsCause (BadGroup place group) bytes = FirstBad bytes place group

-- the number of a refusal
abbrev pub number_of_refusal : CodecRefusal → ℕ
number_of_refusal (BadGroup place group) = 1
number_of_refusal NoMemory = 2
