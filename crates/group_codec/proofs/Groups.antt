-- A group is read where it is one, and is one where it is read.
use Rattle.std.proofs.Common.{◌≡◌, ◌≢◌, ℕ, ◌+◌, ◌<◌, ◌≤◌, ◌^◌, Bool, true, List, [], ◌∷◌, ◌++◌, length, take, drop, refl, sym, ap, ◌∙◌, arith, length-append, append_assoc, append-nil, drop-drop}
use Rattle.std.specs.Prelude.{◌&&◌, ◌==◌, nat_lt, nat_le, flat_map}
use Rattle.std.specs.List.{list_all}
use Rattle.std.proofs.lemmas.Bool.{and_parts, ltb-true, leb-true, lt-ltb, le-leb, eq-eqb}
use Rattle.std.proofs.lemmas.Bool.Decides.{nat_tests}
use Rattle.std.proofs.lemmas.List.{take-append-drop, length-take, length-drop, take_at}
use Rattle.graph_model.specs.declared.record.Record.{Record}
use Rattle.graph_model.specs.Records.{group_most}
use Rattle.group_codec.specs.Spelling.{u32_bytes, u64_bytes, record_bytes, is_spelled, group_payload, group_bytes, are_spelled, is_group}
use Rattle.group_codec.specs.Reading.{NoneBegins, ReadsUpTo, all_of, NoPayloadOf, NoGroupBegins}
use Rattle.group_codec.proofs.Lengths.{length-u32_bytes, length-group_payload}
use Rattle.group_codec.proofs.Numbers.{u32_one, u64_one}
use Rattle.group_codec.proofs.Fronts.{append_parts, record-ends, list-ends}

both : (a b : Bool) → a ≡ true → b ≡ true → (a && b) ≡ true
both a b p q = grind (arith, nat_tests)

three : (a b c : Bool) → a ≡ true → b ≡ true → c ≡ true → (a && (b && c)) ≡ true
three a b c p q r = grind (arith, nat_tests)

-- what a group keeps
pub spelled-parts : (epoch : ℕ) (g : List Record) → are_spelled epoch g ≡ true → (0 < length g) × (length g ≤ group_most) × (list_all (is_spelled epoch) g ≡ true)
spelled-parts epoch g ok =
    let a = and_parts (nat_lt 0 (length g)) _ ok in
    let b = and_parts (nat_le (length g) group_most) (list_all (is_spelled epoch) g) a.1 in
    (ltb-true _ _ a.0, leb-true _ _ b.0, b.1)

pub are_spelled-from : (epoch : ℕ) (g : List Record) → 0 < length g → length g ≤ group_most → list_all (is_spelled epoch) g ≡ true → are_spelled epoch g ≡ true
are_spelled-from epoch g some few all = three (nat_lt 0 (length g)) (nat_le (length g) group_most) (list_all (is_spelled epoch) g) (lt-ltb _ _ some) (le-leb _ _ few) all

pub group-parts : (epoch : ℕ) (g : List Record) → is_group epoch g ≡ true → (epoch < 2 ^ 64) × (are_spelled epoch g ≡ true) × (length (group_payload epoch g) < 2 ^ 32)
group-parts epoch g ok =
    let a = and_parts (nat_lt epoch (2 ^ 64)) _ ok in
    let b = and_parts (are_spelled epoch g) (nat_lt (length (group_payload epoch g)) (2 ^ 32)) a.1 in
    (ltb-true _ _ a.0, b.0, ltb-true _ _ b.1)

pub is_group-from : (epoch : ℕ) (g : List Record) → epoch < 2 ^ 64 → are_spelled epoch g ≡ true → length (group_payload epoch g) < 2 ^ 32 → is_group epoch g ≡ true
is_group-from epoch g small ok long = three (nat_lt epoch (2 ^ 64)) (are_spelled epoch g) (nat_lt (length (group_payload epoch g)) (2 ^ 32)) (lt-ltb _ _ small) ok (lt-ltb _ _ long)

-- the head of a payload tells its epoch and how many records it has, and behind it stand these
payload-behind : (epoch first count : ℕ) (payload : List ℕ) (g : List Record) → epoch < 2 ^ 64 → first < 2 ^ 64 → count < 2 ^ 32 →
    payload ≡ (u64_bytes first ++ u32_bytes count) ++ drop 12 payload → are_spelled epoch g ≡ true → payload ≡ group_payload epoch g →
    (first ≡ epoch) × (count ≡ length g) × (drop 12 payload ≡ flat_map record_bytes g)
payload-behind epoch first count payload g he hf hc front ok is =
    let p = spelled-parts epoch g ok in
    let e = u64_one first epoch (u32_bytes count ++ drop 12 payload) (u32_bytes (length g) ++ flat_map record_bytes g) hf he (sym (append_assoc (u64_bytes first) (u32_bytes count) (drop 12 payload)) ∙ sym front ∙ is) in
    let n = u32_one count (length g) (drop 12 payload) (flat_map record_bytes g) hc (omega (arith, p.1)) e.1 in
    (e.0, n.0, n.1)

pub payload_of-short : (epoch : ℕ) (payload : List ℕ) → length payload < 12 → NoPayloadOf epoch payload
payload_of-short epoch payload short g ok is = absurd (omega (arith, ap length is, length-group_payload epoch g))

pub payload_of-epoch : (epoch first count : ℕ) (payload : List ℕ) → epoch < 2 ^ 64 → first < 2 ^ 64 → count < 2 ^ 32 →
    payload ≡ (u64_bytes first ++ u32_bytes count) ++ drop 12 payload → first ≢ epoch → NoPayloadOf epoch payload
payload_of-epoch epoch first count payload he hf hc front other g ok is = other (payload-behind epoch first count payload g he hf hc front ok is).0

pub payload_of-count : (epoch first count : ℕ) (payload : List ℕ) → epoch < 2 ^ 64 → first < 2 ^ 64 → count < 2 ^ 32 →
    payload ≡ (u64_bytes first ++ u32_bytes count) ++ drop 12 payload → (0 < count → count ≤ 64 → ⊥) → NoPayloadOf epoch payload
payload_of-count epoch first count payload he hf hc front other g ok is =
    let p = spelled-parts epoch g ok in
    let b = payload-behind epoch first count payload g he hf hc front ok is in
    other (omega (arith, b.1, p.0)) (omega (arith, b.1, p.1))

pub payload_of-none : (epoch first count : ℕ) (payload : List ℕ) → epoch < 2 ^ 64 → first < 2 ^ 64 → count < 2 ^ 32 →
    payload ≡ (u64_bytes first ++ u32_bytes count) ++ drop 12 payload → NoneBegins (all_of count (is_spelled epoch)) (flat_map record_bytes) (drop 12 payload) → NoPayloadOf epoch payload
payload_of-none epoch first count payload he hf hc front none g ok is =
    let p = spelled-parts epoch g ok in
    let b = payload-behind epoch first count payload g he hf hc front ok is in
    none g [] (both (length g == count) (list_all (is_spelled epoch) g) (eq-eqb (length g) count (sym b.1)) p.2) (b.2 ∙ sym (append-nil (flat_map record_bytes g)))

-- the records that were read are those of any group that the payload is of
payload-same : (epoch first count size : ℕ) (payload : List ℕ) (records g : List Record) → epoch < 2 ^ 64 → first < 2 ^ 64 → count < 2 ^ 32 →
    payload ≡ (u64_bytes first ++ u32_bytes count) ++ drop 12 payload → length records ≡ count → ReadsUpTo (is_spelled epoch) record_bytes (drop 12 payload) records size →
    are_spelled epoch g ≡ true → payload ≡ group_payload epoch g → 12 + size ≡ length payload
payload-same epoch first count size payload records g he hf hc front long up ok is =
    let p = spelled-parts epoch g ok in
    let b = payload-behind epoch first count payload g he hf hc front ok is in
    let ends = list-ends (is_spelled epoch) record_bytes (record-ends epoch) records g (drop size (drop 12 payload)) [] up.passes p.2 (long ∙ b.1) (sym up.spelled ∙ b.2 ∙ sym (append-nil (flat_map record_bytes g))) in
    omega (arith, ap length ends.1, ap (λ rs. length (flat_map record_bytes rs)) ends.0, up.long, ap length b.2, ap length is, length-group_payload epoch g)

pub payload_of-spare : (epoch first count size : ℕ) (payload : List ℕ) (records : List Record) → epoch < 2 ^ 64 → first < 2 ^ 64 → count < 2 ^ 32 →
    payload ≡ (u64_bytes first ++ u32_bytes count) ++ drop 12 payload → length records ≡ count → ReadsUpTo (is_spelled epoch) record_bytes (drop 12 payload) records size →
    12 + size ≢ length payload → NoPayloadOf epoch payload
payload_of-spare epoch first count size payload records he hf hc front long up other g ok is = other (payload-same epoch first count size payload records g he hf hc front long up ok is)

pub payload_of-found : (epoch first count size : ℕ) (payload : List ℕ) (records : List Record) →
    payload ≡ (u64_bytes first ++ u32_bytes count) ++ drop 12 payload → first ≡ epoch → length records ≡ count → ReadsUpTo (is_spelled epoch) record_bytes (drop 12 payload) records size →
    12 + size ≡ length payload → payload ≡ group_payload epoch records
payload_of-found epoch first count size payload records front same long up whole =
    let none : drop size (drop 12 payload) ≡ [] = empty (drop size (drop 12 payload)) (omega (arith, length-drop size (drop 12 payload), length-drop 12 payload)) in
    front ∙ append_assoc (u64_bytes first) (u32_bytes count) (drop 12 payload) ∙ ap (λ e. u64_bytes e ++ (u32_bytes count ++ drop 12 payload)) same
    ∙ ap (λ n. u64_bytes epoch ++ (u32_bytes n ++ drop 12 payload)) (sym long)
    ∙ ap (λ xs. u64_bytes epoch ++ (u32_bytes (length records) ++ xs)) (up.spelled ∙ ap (λ xs. flat_map record_bytes records ++ xs) none ∙ append-nil (flat_map record_bytes records))
  where
    empty : (xs : List ℕ) → length xs ≡ 0 → xs ≡ []
    empty [] e = refl
    empty (x ∷ xs) e = absurd (omega arith)

-- the length of a group tells where its payload ends
group-behind : (epoch len : ℕ) (bytes rest : List ℕ) (g : List Record) → len < 2 ^ 32 → bytes ≡ u32_bytes len ++ drop 4 bytes → is_group epoch g ≡ true → bytes ≡ group_bytes epoch g ++ rest →
    (len ≡ length (group_payload epoch g)) × (take len (drop 4 bytes) ≡ group_payload epoch g) × (drop 4 bytes ≡ group_payload epoch g ++ rest)
group-behind epoch len bytes rest g hl front ok is =
    let p = group-parts epoch g ok in
    let one = u32_one len (length (group_payload epoch g)) (drop 4 bytes) (group_payload epoch g ++ rest) hl p.2 (sym front ∙ is ∙ append_assoc (u32_bytes (length (group_payload epoch g))) (group_payload epoch g) rest) in
    (one.0, ap (take len) one.1 ∙ take_at (group_payload epoch g) rest len (sym one.0), one.1)

pub group-short : (epoch : ℕ) (bytes : List ℕ) → length bytes < 4 → NoGroupBegins epoch bytes
group-short epoch bytes short g (ok, (gate, rest, is)) =
    let payload = group_payload epoch g in
    absurd (omega (arith, ap length is, length-append (group_bytes epoch g) (gate ∷ rest), length-append (u32_bytes (length payload)) payload, length-u32_bytes (length payload)))

pub group-cut : (epoch len : ℕ) (bytes : List ℕ) → len < 2 ^ 32 → bytes ≡ u32_bytes len ++ drop 4 bytes → length bytes ≤ 4 + len → NoGroupBegins epoch bytes
group-cut epoch len bytes hl front cut g (ok, (gate, rest, is)) =
    let b = group-behind epoch len bytes (gate ∷ rest) g hl front ok is in
    let payload = group_payload epoch g in
    absurd (omega (arith, ap length is, length-append (group_bytes epoch g) (gate ∷ rest), length-append (u32_bytes (length payload)) payload, length-u32_bytes (length payload), b.0))

pub group-none : (epoch len : ℕ) (bytes : List ℕ) → len < 2 ^ 32 → bytes ≡ u32_bytes len ++ drop 4 bytes → NoPayloadOf epoch (take len (drop 4 bytes)) → NoGroupBegins epoch bytes
group-none epoch len bytes hl front none g (ok, (gate, rest, is)) =
    let b = group-behind epoch len bytes (gate ∷ rest) g hl front ok is in
    none g (group-parts epoch g ok).1 b.1

pub group-found : (epoch len : ℕ) (bytes : List ℕ) (g : List Record) → bytes ≡ u32_bytes len ++ drop 4 bytes → len + 4 < length bytes → take len (drop 4 bytes) ≡ group_payload epoch g →
    (length (group_payload epoch g) ≡ len) × (bytes ≡ group_bytes epoch g ++ drop (4 + len) bytes) × (4 + len ≡ length (group_bytes epoch g))
group-found epoch len bytes g front long is =
    let payload = group_payload epoch g in
    let counted : length payload ≡ len = ap length (sym is) ∙ omega (arith, length-take len (drop 4 bytes), length-drop 4 bytes) in
    let split : drop 4 bytes ≡ payload ++ drop (4 + len) bytes = sym (take-append-drop len (drop 4 bytes)) ∙ ap (λ xs. xs ++ drop len (drop 4 bytes)) is ∙ ap (λ xs. payload ++ xs) (drop-drop len 4 bytes) in (
      counted,
      front ∙ ap (λ xs. u32_bytes len ++ xs) split ∙ sym (append_assoc (u32_bytes len) payload (drop (4 + len) bytes)) ∙ ap (λ n. (u32_bytes n ++ payload) ++ drop (4 + len) bytes) (sym counted),
      omega (arith, length-append (u32_bytes (length payload)) payload, length-u32_bytes (length payload)),
    )

-- a group tells its end
pub group-ends : (epoch : ℕ) (g h : List Record) (r s : List ℕ) → is_group epoch g ≡ true → is_group epoch h ≡ true → group_bytes epoch g ++ r ≡ group_bytes epoch h ++ s → (g ≡ h) × (r ≡ s)
group-ends epoch g h r s hg hh e =
    let pg = group-parts epoch g hg in
    let ph = group-parts epoch h hh in
    let sg = spelled-parts epoch g pg.1 in
    let sh = spelled-parts epoch h ph.1 in
    let a = u32_one (length (group_payload epoch g)) (length (group_payload epoch h)) (group_payload epoch g ++ r) (group_payload epoch h ++ s) pg.2 ph.2
    (sym (append_assoc (u32_bytes (length (group_payload epoch g))) (group_payload epoch g) r) ∙ e ∙ append_assoc (u32_bytes (length (group_payload epoch h))) (group_payload epoch h) s) in
    let b = append_parts (group_payload epoch g) (group_payload epoch h) r s a.0 a.1 in
    let c = u64_one epoch epoch (u32_bytes (length g) ++ flat_map record_bytes g) (u32_bytes (length h) ++ flat_map record_bytes h) pg.0 pg.0 b.0 in
    let d = u32_one (length g) (length h) (flat_map record_bytes g) (flat_map record_bytes h) (omega (arith, sg.1)) (omega (arith, sh.1)) c.1 in
    let all = list-ends (is_spelled epoch) record_bytes (record-ends epoch) g h [] [] sg.2 sh.2 d.0 (append-nil (flat_map record_bytes g) ∙ d.1 ∙ sym (append-nil (flat_map record_bytes h))) in
    (all.0, b.1)
