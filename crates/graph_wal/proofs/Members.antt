-- The bytes of members, one after another.
use Rattle.std.proofs.Common.{◌≡◌, ℕ, zero, suc, ◌+◌, ◌≤◌, List, [], ◌∷◌, ◌++◌, length, drop, refl, sym, ◌∙◌, ap, subst, arith, length-append, append_assoc, Some}
use Rattle.std.specs.Prelude.{slice_get, flat_map}
use Rattle.std.proofs.lemmas.List.{length-map}
use Rattle.graph_model.specs.Change.{encoded_lens}
use Rattle.graph_model.specs.Records.{transaction_most}
use Rattle.group_codec.specs.Spelling.{head_bytes, changes_bytes, record_bytes, group_bytes}
use Rattle.group_codec.proofs.Lengths.{length-head_bytes, length-changes_bytes, length-le-encoded_lens, group_bytes-parts}
use Rattle.group_commit.specs.Encoded.{Encoded, Spells}
use Rattle.group_commit.specs.Members.{records_at}
use Rattle.graph_wal.specs.Pieces.{member_bytes, members_bytes, front_bytes, AreWithin, AreSpelled}

-- how long a member is
pub length-member_bytes : (m : Encoded) → length (member_bytes m) ≡ 20 + length m.bytes
length-member_bytes m = length-append (head_bytes m.draft.tid m.draft.read (length m.draft.changes)) m.bytes ∙ ap (λ (n : ℕ). n + length m.bytes) (length-head_bytes m.draft.tid m.draft.read (length m.draft.changes))

-- the bytes of a member within the limit
pub length-spelled : (m : Encoded) → Spells m.bytes m.draft.changes → encoded_lens m.draft.changes ≤ transaction_most → length m.bytes ≤ 16777216
length-spelled m spells within = omega (arith, ap length spells.spelling, length-changes_bytes m.draft.changes)

-- how many changes a member within the limit has
pub count-within : (m : Encoded) → encoded_lens m.draft.changes ≤ transaction_most → length m.draft.changes ≤ 16777216
count-within m within = omega (arith, length-le-encoded_lens m.draft.changes)

-- what stands from a place on, where one stands there
pub drop_at_some : {X : Type 0} (xs : List X) (i : ℕ) (x : X) → slice_get xs i ≡ Some x → drop i xs ≡ x ∷ drop (i + 1) xs
drop_at_some [] i x is = cc
drop_at_some (y ∷ xs) zero x is = let same : y ≡ x = cc in ap (λ z. z ∷ xs) same
drop_at_some {X} (y ∷ xs) (suc i) x is = drop_at_some xs i x is ∙ (let next : suc i + 1 ≡ suc (i + 1) = omega arith in ap (λ (l : List X). x ∷ l) (sym (ap (λ (n : ℕ). drop n (y ∷ xs)) next)))

-- the members from one on are this one and those behind it
module _ (members : List Encoded) (i : ℕ) (m : Encoded) (stands : slice_get members i ≡ Some m) where
  pub members-next : members_bytes (drop i members) ≡ member_bytes m ++ members_bytes (drop (i + 1) members)
  members-next = ap members_bytes (drop_at_some members i m stands)

  pub length-next : length (members_bytes (drop i members)) ≡ length (member_bytes m) + length (members_bytes (drop (i + 1) members))
  length-next = ap length members-next ∙ length-append (member_bytes m) (members_bytes (drop (i + 1) members))

  pub within-next : AreWithin (drop i members) → (encoded_lens m.draft.changes ≤ transaction_most) × AreWithin (drop (i + 1) members)
  within-next within = subst AreWithin (drop_at_some members i m stands) within

  pub spelled-next : (AreSpelled (drop i members) → AreSpelled members) → Spells m.bytes m.draft.changes → AreSpelled (drop (i + 1) members) → AreSpelled members
  spelled-next before spells behind = before (subst AreSpelled (sym (drop_at_some members i m stands)) (spells, behind))

-- the records of members that are spelled are spelled by their bytes
pub records-bytes : (epoch : ℕ) (members : List Encoded) → AreSpelled members → flat_map record_bytes (records_at epoch members) ≡ members_bytes members
records-bytes epoch [] spelled = refl
records-bytes epoch (m ∷ members) spelled =
    let head = head_bytes m.draft.tid m.draft.read (length m.draft.changes) in
    ap (λ (l : List ℕ). (head ++ changes_bytes m.draft.changes) ++ l) (records-bytes epoch members spelled.1)
    ∙ ap (λ (l : List ℕ). (head ++ l) ++ members_bytes members) (sym spelled.0.spelling)

-- the pieces of a group are the group
pub group-pieces : (epoch len count : ℕ) (members : List Encoded) → AreSpelled members → len ≡ 12 + length (members_bytes members) → count ≡ length members → front_bytes len epoch count ++ members_bytes members ≡ group_bytes epoch (records_at epoch members)
group-pieces epoch len count members spelled is-len is-count =
    let records = records_at epoch members in
    let bytes = records-bytes epoch members spelled in
    let many : length records ≡ length members = length-map members (λ (m : Encoded). let r = m.draft in record r { epoch = epoch }) in
    ap (λ (l : List ℕ). front_bytes len epoch count ++ l) (sym bytes)
    ∙ ap (λ (n : ℕ). front_bytes len epoch n ++ flat_map record_bytes records) (is-count ∙ sym many)
    ∙ group_bytes-parts epoch len records (is-len ∙ ap (λ (l : List ℕ). 12 + length l) (sym bytes))

-- the pieces and the closed gate behind them are the group and the gate
pub group-and-gate : (epoch len count : ℕ) (members : List Encoded) (front : List ℕ) → front ≡ front_bytes len epoch count → AreSpelled members → len ≡ 12 + length (members_bytes members) → count ≡ length members → front ++ (members_bytes members ++ 0 ∷ []) ≡ group_bytes epoch (records_at epoch members) ++ 0 ∷ []
group-and-gate epoch len count members front is-front spelled is-len is-count =
    sym (append_assoc front (members_bytes members) (0 ∷ []))
    ∙ ap (λ (l : List ℕ). (l ++ members_bytes members) ++ 0 ∷ []) is-front
    ∙ ap (λ (l : List ℕ). l ++ 0 ∷ []) (group-pieces epoch len count members spelled is-len is-count)
