-- How long what is spelled is.
use Rattle.std.proofs.Common.{◌≡◌, ℕ, ◌+◌, ◌<◌, ◌≤◌, true, List, [], ◌∷◌, ◌++◌, length, refl, sym, ◌∙◌, arith, length-append, append_assoc}
use Rattle.std.specs.Prelude.{flat_map, ◌&&◌, ◌==◌, nat_lt, nat_le}
use Rattle.std.specs.List.{list_all}
use Rattle.std.proofs.lemmas.Bool.{and_parts, leb-true, ltb-true, eqb-true}
use Rattle.std.proofs.lemmas.List.Sums.{sum_by-cons}
use Rattle.graph_model.specs.declared.change.Change.{Change}
use Rattle.graph_model.specs.declared.change.Change.TheVariants.{New, Set, Drop, Put, Del}
use Rattle.graph_model.specs.declared.record.Record.{Record}
use Rattle.graph_model.specs.Change.{encoded_len, encoded_lens}
use Rattle.graph_model.specs.Records.{transaction_most, group_most}
use Rattle.group_codec.specs.Spelling.{u16_bytes, u32_bytes, u64_bytes, payload_bytes, change_bytes, changes_bytes, head_bytes, record_bytes, group_payload, group_bytes, is_within, can_encode}

pub length-u16_bytes : (n : ℕ) → length (u16_bytes n) ≡ 2
unfolding u16_bytes
length-u16_bytes n = refl

pub length-u32_bytes : (n : ℕ) → length (u32_bytes n) ≡ 4
unfolding u32_bytes
length-u32_bytes n = refl

pub length-u64_bytes : (n : ℕ) → length (u64_bytes n) ≡ 8
unfolding u64_bytes
length-u64_bytes n = refl

pub length-payload_bytes : (p : List ℕ) → length (payload_bytes p) ≡ 2 + length p
length-payload_bytes p = simp (length-append, length-u16_bytes) refl

-- a change is as long as its encoded length says
pub length-change_bytes : (c : Change) → length (change_bytes c) ≡ encoded_len c
length-change_bytes (New v p) = simp (length-append, length-u64_bytes, length-u16_bytes) (omega arith)
length-change_bytes (Set v p) = simp (length-append, length-u64_bytes, length-u16_bytes) (omega arith)
length-change_bytes (Drop v) = simp (length-u64_bytes) (omega arith)
length-change_bytes (Put v l d p) = simp (length-append, length-u64_bytes, length-u16_bytes) (omega arith)
length-change_bytes (Del v l d) = simp (length-append, length-u64_bytes, length-u16_bytes) (omega arith)

pub length-changes_bytes : (cs : List Change) → length (changes_bytes cs) ≡ encoded_lens cs
length-changes_bytes [] = refl
length-changes_bytes (c ∷ cs) = omega (arith, length-append (change_bytes c) (changes_bytes cs), length-change_bytes c, length-changes_bytes cs, sum_by-cons encoded_len c cs)

pub length-head_bytes : (tid read count : ℕ) → length (head_bytes tid read count) ≡ 20
length-head_bytes tid read count = simp (length-append, length-u64_bytes, length-u32_bytes) refl

pub length-record_bytes : (r : Record) → length (record_bytes r) ≡ 20 + encoded_lens r.changes
length-record_bytes r = omega (arith, length-append (head_bytes r.tid r.read (length r.changes)) (changes_bytes r.changes), length-head_bytes r.tid r.read (length r.changes), length-changes_bytes r.changes)

-- a change takes a byte at least
pub encoded_len-pos : (c : Change) → 0 < encoded_len c
encoded_len-pos (New v p) = omega arith
encoded_len-pos (Set v p) = omega arith
encoded_len-pos (Drop v) = omega arith
encoded_len-pos (Put v l d p) = omega arith
encoded_len-pos (Del v l d) = omega arith

pub length-le-encoded_lens : (cs : List Change) → length cs ≤ encoded_lens cs
length-le-encoded_lens [] = omega arith
length-le-encoded_lens (c ∷ cs) = omega (arith, encoded_len-pos c, sum_by-cons encoded_len c cs, length-le-encoded_lens cs)

-- what a record within the limits keeps
pub is_within-lens : (epoch : ℕ) (r : Record) → is_within epoch r ≡ true → encoded_lens r.changes ≤ transaction_most
is_within-lens epoch r within = leb-true _ _ (and_parts _ _ (and_parts _ _ within).1).1

pub length-group_payload : (epoch : ℕ) (records : List Record) → length (group_payload epoch records) ≡ 12 + length (flat_map record_bytes records)
length-group_payload epoch records = simp (length-append, length-u64_bytes, length-u32_bytes) (omega arith)

-- a group, from its head and its records
pub group_bytes-parts : (epoch len : ℕ) (records : List Record) → len ≡ 12 + length (flat_map record_bytes records) →
    (u32_bytes len ++ (u64_bytes epoch ++ u32_bytes (length records))) ++ flat_map record_bytes records ≡ group_bytes epoch records
group_bytes-parts epoch len records is =
    rw (is ∙ sym (length-group_payload epoch records), append_assoc, append_assoc) refl

pub is_within-parts : (epoch : ℕ) (r : Record) → is_within epoch r ≡ true → (r.epoch ≡ epoch) × (0 < length r.changes)
is_within-parts epoch r within =
    let outer = and_parts (r.epoch == epoch) (nat_lt 0 (length r.changes) && nat_le (encoded_lens r.changes) transaction_most) within in
    (eqb-true r.epoch epoch outer.0, ltb-true 0 (length r.changes) (and_parts (nat_lt 0 (length r.changes)) (nat_le (encoded_lens r.changes) transaction_most) outer.1).0)

pub can_encode-parts : (epoch : ℕ) (g : List Record) → can_encode epoch g ≡ true → (0 < length g) × (length g ≤ group_most) × (list_all (is_within epoch) g ≡ true)
can_encode-parts epoch g ok =
    let outer = and_parts (nat_lt 0 (length g)) (nat_le (length g) group_most && list_all (is_within epoch) g) ok in
    let inner = and_parts (nat_le (length g) group_most) (list_all (is_within epoch) g) outer.1 in
    (ltb-true 0 (length g) outer.0, leb-true (length g) group_most inner.0, inner.1)
