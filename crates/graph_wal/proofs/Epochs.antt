-- The epochs of a log's groups, and which group may be the next one.
use Rattle.std.proofs.Common.{◌≡◌, ℕ, ◌+◌, ◌<◌, ◌≤◌, ◌^◌, Bool, true, List, [], ◌∷◌, ◌++◌, length, refl, sym, ◌∙◌, ap, arith}
use Rattle.std.specs.Prelude.{nat_lt, nat_le, ◌&&◌, ◌==◌}
use Rattle.std.specs.List.{list_all}
use Rattle.std.proofs.lemmas.Bool.{and_parts, ltb-true, eqb-true}
use Rattle.std.proofs.lemmas.Bool.Decides.{nat_tests}
use Rattle.std.proofs.lemmas.List.{length-map}
use Rattle.std.proofs.lemmas.List.Folds.{list_all-append}
use Rattle.graph_model.specs.declared.record.Record.{Record}
use Rattle.graph_model.specs.Change.{encoded_lens}
use Rattle.graph_model.specs.Records.{Lawful, last_epoch, is_record, has_destination, transaction_most, number_end}
use Rattle.group_codec.specs.Spelling.{is_spelled, is_group, has_fields}
use Rattle.group_codec.specs.Log.{are_groups, records_of}
use Rattle.group_codec.proofs.Groups.{spelled-parts, are_spelled-from, group-parts, is_group-from}
use Rattle.group_codec.proofs.Lengths.{length-le-encoded_lens, length-group_payload}
use Rattle.group_commit.specs.Encoded.{Encoded}
use Rattle.group_commit.specs.Members.{records_at}
use Rattle.graph_wal.specs.Pieces.{AreWithin, AreSpelled, members_bytes}
use Rattle.graph_wal.specs.Log.{IsDurable, MayFollow}
use Rattle.graph_wal.proofs.Members.{records-bytes}

-- a record of a group has the group's epoch
spelled-epoch : (epoch : ℕ) (r : Record) → is_spelled epoch r ≡ true → r.epoch ≡ epoch
spelled-epoch epoch r spelled =
    eqb-true r.epoch epoch (and_parts (r.epoch == epoch) (nat_lt r.tid (2 ^ 64) && (nat_lt r.read (2 ^ 64) && (nat_lt 0 (length r.changes) && (nat_lt (length r.changes) (2 ^ 32) && list_all has_fields r.changes)))) spelled).0

-- records of one epoch leave it the last one
last-same : (epoch : ℕ) (g rest : List Record) → list_all (is_spelled epoch) g ≡ true → last_epoch epoch (g ++ rest) ≡ last_epoch epoch rest
last-same epoch [] rest all = refl
last-same epoch (r ∷ g) rest all =
    let parts = and_parts (is_spelled epoch r) (list_all (is_spelled epoch) g) all in
    ap (λ (n : ℕ). last_epoch n (g ++ rest)) (spelled-epoch epoch r parts.0) ∙ last-same epoch g rest parts.1

-- and so do those of a group, whatever the last one was
last-group : (before epoch : ℕ) (g rest : List Record) → 0 < length g → list_all (is_spelled epoch) g ≡ true → last_epoch before (g ++ rest) ≡ last_epoch epoch rest
last-group before epoch [] rest some all = absurd (omega arith)
last-group before epoch (r ∷ g) rest some all =
    let parts = and_parts (is_spelled epoch r) (list_all (is_spelled epoch) g) all in
    ap (λ (n : ℕ). last_epoch n (g ++ rest)) (spelled-epoch epoch r parts.0) ∙ last-same epoch g rest parts.1

-- the last epoch of groups is their number
last-groups : (epoch : ℕ) (groups : List (List Record)) → are_groups epoch groups ≡ true → last_epoch epoch (records_of groups) ≡ epoch + length groups
last-groups epoch [] all = omega arith
last-groups epoch (g ∷ groups) all =
    let parts = and_parts (is_group (epoch + 1) g) (are_groups (epoch + 1) groups) all in
    let spelled = spelled-parts (epoch + 1) g (group-parts (epoch + 1) g parts.0).1 in
    last-group epoch (epoch + 1) g (records_of groups) spelled.0 spelled.2 ∙ last-groups (epoch + 1) groups parts.1 ∙ (omega arith)

pub last-durable : (groups : List (List Record)) (records : List Record) (durable : ℕ) → IsDurable groups records durable → last_epoch 0 records ≡ length groups
last-durable groups records durable log = ap (last_epoch 0) log.all ∙ last-groups 0 groups log.spelled ∙ (omega arith)

-- a lawful record whose changes are spelled fits its fields
spelled-record : (epoch : ℕ) (r : Record) → r.epoch ≡ epoch → list_all has_fields r.changes ≡ true → encoded_lens r.changes ≤ transaction_most → is_record 0 1 r ≡ true → is_spelled epoch r ≡ true
spelled-record epoch r is fields within lawful =
    let p7 = and_parts (nat_le 1 r.tid && nat_lt r.tid number_end && nat_le 0 r.read && nat_lt r.read r.epoch && nat_lt r.epoch number_end && nat_lt 0 (length r.changes) && nat_le (encoded_lens r.changes) transaction_most) (list_all has_destination r.changes) lawful in
    let p6 = and_parts (nat_le 1 r.tid && nat_lt r.tid number_end && nat_le 0 r.read && nat_lt r.read r.epoch && nat_lt r.epoch number_end && nat_lt 0 (length r.changes)) (nat_le (encoded_lens r.changes) transaction_most) p7.0 in
    let p5 = and_parts (nat_le 1 r.tid && nat_lt r.tid number_end && nat_le 0 r.read && nat_lt r.read r.epoch && nat_lt r.epoch number_end) (nat_lt 0 (length r.changes)) p6.0 in
    let p4 = and_parts (nat_le 1 r.tid && nat_lt r.tid number_end && nat_le 0 r.read && nat_lt r.read r.epoch) (nat_lt r.epoch number_end) p5.0 in
    let p3 = and_parts (nat_le 1 r.tid && nat_lt r.tid number_end && nat_le 0 r.read) (nat_lt r.read r.epoch) p4.0 in
    let p2 = and_parts (nat_le 1 r.tid && nat_lt r.tid number_end) (nat_le 0 r.read) p3.0 in
    let p1 = and_parts (nat_le 1 r.tid) (nat_lt r.tid number_end) p2.0 in
    let tid : r.tid < number_end = ltb-true r.tid number_end p1.1 in
    let read : r.read < r.epoch = ltb-true r.read r.epoch p3.1 in
    let end : r.epoch < number_end = ltb-true r.epoch number_end p4.1 in
    let some : 0 < length r.changes = ltb-true 0 (length r.changes) p5.1 in
    let few : length r.changes ≤ transaction_most = omega (arith, length-le-encoded_lens r.changes) in
    let e1 : (r.epoch == epoch) ≡ true = grind (arith, nat_tests) in
    let e2 : nat_lt r.tid (2 ^ 64) ≡ true = grind (arith, nat_tests) in
    let e3 : nat_lt r.read (2 ^ 64) ≡ true = grind (arith, nat_tests) in
    let e4 : nat_lt 0 (length r.changes) ≡ true = grind (arith, nat_tests) in
    let e5 : nat_lt (length r.changes) (2 ^ 32) ≡ true = grind (arith, nat_tests) in
    rw (e1, e2, e3, e4, e5, fields) refl

spelled-all : (epoch : ℕ) (members : List Encoded) → AreSpelled members → AreWithin members → list_all (is_record 0 1) (records_at epoch members) ≡ true → list_all (is_spelled epoch) (records_at epoch members) ≡ true
spelled-all epoch [] spelled within lawful = refl
spelled-all epoch (m ∷ members) spelled within lawful =
    let r = m.draft in
    let set : Record = record r { epoch = epoch } in
    let parts = and_parts (is_record 0 1 set) (list_all (is_record 0 1) (records_at epoch members)) lawful in
    let head : is_spelled epoch set ≡ true = spelled-record epoch set refl spelled.0.fields within.0 parts.0 in
    ap (λ (b : Bool). b && list_all (is_spelled epoch) (records_at epoch members)) head ∙ spelled-all epoch members spelled.1 within.1 parts.1

-- a group of spelled members that goes on lawfully may follow
pub may-follow : (groups : List (List Record)) (records : List Record) (durable epoch : ℕ) (members : List Encoded) → IsDurable groups records durable → AreSpelled members → AreWithin members → 0 < length members → length members ≤ 64 → epoch < 2 ^ 64 → length (members_bytes members) ≤ 1073743104 → epoch ≡ last_epoch 0 records + 1 → Lawful (records ++ records_at epoch members) → MayFollow groups records (records_at epoch members)
may-follow groups records durable epoch members log spelled within some few fits short next lawful =
    let g = records_at epoch members in
    let is : epoch ≡ length groups + 1 = next ∙ ap (λ (n : ℕ). n + 1) (last-durable groups records durable log) in
    let many : length g ≡ length members = length-map members (λ (m : Encoded). let r = m.draft in record r { epoch = epoch }) in
    let each : list_all (is_record 0 1) records && list_all (is_record 0 1) g ≡ true = sym (list_all-append (is_record 0 1) records g) ∙ lawful.each in
    let own : list_all (is_record 0 1) g ≡ true = (and_parts (list_all (is_record 0 1) records) (list_all (is_record 0 1) g) each).1 in
    let all : list_all (is_spelled epoch) g ≡ true = spelled-all epoch members spelled within own in
    let group : is_group epoch g ≡ true =
    is_group-from epoch g fits (are_spelled-from epoch g (omega arith) (omega arith) all) (omega (arith, length-group_payload epoch g, ap length (records-bytes epoch members spelled))) in
    record { spelled = ap (λ (n : ℕ). is_group n g) (sym is) ∙ group; lawful = lawful }
