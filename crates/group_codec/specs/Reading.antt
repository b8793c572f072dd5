-- What reading one thing at the front of bytes finds.
use Rattle.std.specs.Prelude.{◌≡◌, ◌≤◌, ℕ, ◌^◌, Bool, ◌&&◌, ◌==◌, nat_lt, IsTrue, List, ◌∷◌, ◌++◌, length, drop, flat_map}
use Rattle.std.specs.List.{list_all}
use Rattle.graph_model.specs.declared.record.Record.{Record}
use Rattle.group_codec.specs.Spelling.{u16_bytes, u64_bytes, payload_bytes, is_payload, group_payload, group_bytes, are_spelled, is_group}

-- The bytes begin with the spelling of x, which passes the test.
pub record Begins {X : Type 0} (test : X → Bool) (spell : X → List ℕ) (bytes : List ℕ) (x : X) : Type 0 where
  pub passes : IsTrue (test x)
  pub spelled : bytes ≡ spell x ++ drop (length (spell x)) bytes

-- The bytes begin with the spelling of nothing that passes the test.
abbrev pub NoneBegins : {X : Type 0} → (X → Bool) → (X → List ℕ) → List ℕ → Type 0
NoneBegins {X} test spell bytes = (x : X) (rest : List ℕ) → IsTrue (test x) → bytes ≡ spell x ++ rest → ⊥

-- a vertex and a payload
abbrev pub vertex_bytes : ℕ × List ℕ → List ℕ
vertex_bytes x = u64_bytes x.0 ++ payload_bytes x.1

abbrev pub is_vertex : ℕ × List ℕ → Bool
is_vertex x = nat_lt x.0 (2 ^ 64) && is_payload x.1

-- a vertex, a label and a destination
abbrev pub edge_bytes : ℕ × ℕ × ℕ → List ℕ
edge_bytes x = u64_bytes x.0 ++ (u16_bytes x.1 ++ u64_bytes x.2)

abbrev pub is_edge : ℕ × ℕ × ℕ → Bool
is_edge x = nat_lt x.0 (2 ^ 64) && (nat_lt x.1 (2 ^ 16) && nat_lt x.2 (2 ^ 64))

-- so many, each of which passes the test
abbrev pub all_of : {X : Type 0} → ℕ → (X → Bool) → List X → Bool
all_of count test xs = length xs == count && list_all test xs

-- The bytes up to a place are the spellings of xs, each of which passes the test.
pub record ReadsUpTo {X : Type 0} (test : X → Bool) (spell : X → List ℕ) (bytes : List ℕ) (xs : List X) (size : ℕ) : Type 0 where
  pub passes : IsTrue (list_all test xs)
  pub spelled : bytes ≡ flat_map spell xs ++ drop size bytes
  pub long : size ≡ length (flat_map spell xs)
  pub within : size ≤ length bytes

-- The bytes are the payload of no group of this epoch.
abbrev pub NoPayloadOf : ℕ → List ℕ → Type 0
NoPayloadOf epoch payload = (g : List Record) → IsTrue (are_spelled epoch g) → payload ≡ group_payload epoch g → ⊥

-- The bytes begin with a group of this epoch and a gate behind it.
abbrev pub GroupBegins : ℕ → List ℕ → List Record → Type 0
GroupBegins epoch bytes g = IsTrue (is_group epoch g) × ((gate : ℕ) × (rest : List ℕ) × (bytes ≡ group_bytes epoch g ++ gate ∷ rest))

-- no such group
abbrev pub NoGroupBegins : ℕ → List ℕ → Type 0
NoGroupBegins epoch bytes = (g : List Record) → GroupBegins epoch bytes g → ⊥
