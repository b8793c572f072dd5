-- How changes, records and groups are spelled in bytes: fields of fixed width, the highest byte first.
use Rattle.std.specs.Prelude.{ℕ, ◌^◌, Bool, ◌&&◌, ◌==◌, nat_lt, nat_le, List, ◌∷◌, ◌++◌, length, flat_map}
use Rattle.std.specs.List.{list_all}
use Rattle.byteorder.specs.Endian.{big_bytes}
use Rattle.graph_model.specs.declared.change.Change.{Change}
use Rattle.graph_model.specs.declared.change.Change.TheVariants.{New, Set, Drop, Put, Del}
use Rattle.graph_model.specs.declared.record.Record.{Record}
use Rattle.graph_model.specs.Change.{encoded_lens}
use Rattle.graph_model.specs.Records.{group_most, transaction_most}

-- numbers of two, four and eight bytes
unfoldable pub u16_bytes : ℕ → List ℕ
u16_bytes n = big_bytes 2 n

unfoldable pub u32_bytes : ℕ → List ℕ
u32_bytes n = big_bytes 4 n

unfoldable pub u64_bytes : ℕ → List ℕ
u64_bytes n = big_bytes 8 n

-- a payload: its length, and its bytes
abbrev pub payload_bytes : List ℕ → List ℕ
payload_bytes p = u16_bytes (length p) ++ p

-- a change: its tag, its vertex, for an edge its label and destination, and its payload where it has one
abbrev pub change_bytes : Change → List ℕ
change_bytes (New v p) = 1 ∷ (u64_bytes v ++ payload_bytes p)
change_bytes (Set v p) = 2 ∷ (u64_bytes v ++ payload_bytes p)
change_bytes (Drop v) = 3 ∷ u64_bytes v
change_bytes (Put v l d p) = 4 ∷ (u64_bytes v ++ (u16_bytes l ++ (u64_bytes d ++ payload_bytes p)))
change_bytes (Del v l d) = 5 ∷ (u64_bytes v ++ (u16_bytes l ++ u64_bytes d))

-- the changes, one after another
abbrev pub changes_bytes : List Change → List ℕ
changes_bytes changes = flat_map change_bytes changes

-- what stands before the changes of a record: its number, the epoch that it read, and how many they are
abbrev pub head_bytes : ℕ → ℕ → ℕ → List ℕ
head_bytes tid read count = u64_bytes tid ++ (u64_bytes read ++ u32_bytes count)

abbrev pub record_bytes : Record → List ℕ
record_bytes r = head_bytes r.tid r.read (length r.changes) ++ changes_bytes r.changes

-- the payload of a group: its epoch, how many records it has, and these
abbrev pub group_payload : ℕ → List Record → List ℕ
group_payload epoch records = u64_bytes epoch ++ (u32_bytes (length records) ++ flat_map record_bytes records)

-- a group: the length of its payload, and the payload
abbrev pub group_bytes : ℕ → List Record → List ℕ
group_bytes epoch records = u32_bytes (length (group_payload epoch records)) ++ group_payload epoch records

-- what a payload field holds
abbrev pub is_payload : List ℕ → Bool
is_payload p = nat_lt (length p) (2 ^ 16) && list_all (λ b. nat_lt b 256) p

-- the fields of a change hold its numbers and its payload
abbrev pub has_fields : Change → Bool
has_fields (New v p) = nat_lt v (2 ^ 64) && is_payload p
has_fields (Set v p) = nat_lt v (2 ^ 64) && is_payload p
has_fields (Drop v) = nat_lt v (2 ^ 64)
has_fields (Put v l d p) = nat_lt v (2 ^ 64) && (nat_lt l (2 ^ 16) && (nat_lt d (2 ^ 64) && is_payload p))
has_fields (Del v l d) = nat_lt v (2 ^ 64) && (nat_lt l (2 ^ 16) && nat_lt d (2 ^ 64))

-- a record of this epoch that its fields hold, with a change at least
abbrev pub is_spelled : ℕ → Record → Bool
is_spelled epoch r =
    r.epoch == epoch && (nat_lt r.tid (2 ^ 64) && (nat_lt r.read (2 ^ 64)
    && (nat_lt 0 (length r.changes) && (nat_lt (length r.changes) (2 ^ 32) && list_all has_fields r.changes))))

-- one to 64 records of this epoch, which their fields hold
abbrev pub are_spelled : ℕ → List Record → Bool
are_spelled epoch records = nat_lt 0 (length records) && (nat_le (length records) group_most && list_all (is_spelled epoch) records)

-- One to 64 records of this epoch, which the fields of a group hold.
abbrev pub is_group : ℕ → List Record → Bool
is_group epoch records = nat_lt epoch (2 ^ 64) && (are_spelled epoch records && nat_lt (length (group_payload epoch records)) (2 ^ 32))

-- a record of this epoch within the limits of a transaction
abbrev pub is_within : ℕ → Record → Bool
is_within epoch r = r.epoch == epoch && (nat_lt 0 (length r.changes) && nat_le (encoded_lens r.changes) transaction_most)

-- One to 64 records of this epoch, each within the limits.
abbrev pub can_encode : ℕ → List Record → Bool
can_encode epoch records = nat_lt 0 (length records) && (nat_le (length records) group_most && list_all (is_within epoch) records)
