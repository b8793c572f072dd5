-- A log has no more changes than bytes.
use Rattle.std.proofs.Common.{◌≡◌, ℕ, ◌+◌, ◌<◌, ◌≤◌, List, [], ◌∷◌, ◌++◌, length, ap, arith, length-append}
use Rattle.std.specs.Prelude.{flat_map}
use Rattle.std.proofs.lemmas.List.Concat.{flat_map-append}
use Rattle.graph_model.specs.declared.change.Change.{Change}
use Rattle.graph_model.specs.declared.change.Change.TheVariants.{New, Set, Drop, Put, Del}
use Rattle.graph_model.specs.declared.record.Record.{Record}
use Rattle.graph_model.specs.Records.{all_changes}
use Rattle.group_codec.specs.Spelling.{u32_bytes, u64_bytes, change_bytes, changes_bytes, head_bytes, record_bytes, group_bytes, group_payload}
use Rattle.group_codec.specs.Log.{log_head, groups_bytes, log_bytes, records_of, Recovers}

-- a change has a byte at least
change-long : (c : Change) → 0 < length (change_bytes c)
change-long (New v p) = omega arith
change-long (Set v p) = omega arith
change-long (Drop v) = omega arith
change-long (Put v l d p) = omega arith
change-long (Del v l d) = omega arith

changes-long : (cs : List Change) → length cs ≤ length (changes_bytes cs)
changes-long [] = omega arith
changes-long (c ∷ cs) =
    let rest = changes-long cs in
    let one = change-long c in
    omega (arith, rest, one, length-append (change_bytes c) (changes_bytes cs))

records-long : (rs : List Record) → length (all_changes rs) ≤ length (flat_map record_bytes rs)
records-long [] = omega arith
records-long (r ∷ rs) =
    let rest = records-long rs in
    let one = changes-long r.changes in
    omega (arith, rest, one, length-append r.changes (all_changes rs), length-append (record_bytes r) (flat_map record_bytes rs), length-append (head_bytes r.tid r.read (length r.changes)) (changes_bytes r.changes))

group-long : (e : ℕ) (g : List Record) → length (all_changes g) ≤ length (group_bytes e g)
group-long e g =
    let all = records-long g in
    omega (arith, all, length-append (u32_bytes (length (group_payload e g))) (group_payload e g), length-append (u64_bytes e) (u32_bytes (length g) ++ flat_map record_bytes g), length-append (u32_bytes (length g)) (flat_map record_bytes g))

groups-long : (e : ℕ) (gs : List (List Record)) → length (all_changes (records_of gs)) ≤ length (groups_bytes e gs)
groups-long e [] = omega arith
groups-long e (g ∷ gs) =
    let rest = groups-long (e + 1) gs in
    let one = group-long (e + 1) g in
    let both : length (all_changes (g ++ records_of gs)) ≡ length (all_changes g ++ all_changes (records_of gs)) = ap length (flat_map-append (λ (r : Record). r.changes) g (records_of gs)) in
    omega (arith, rest, one, both, length-append (all_changes g) (all_changes (records_of gs)), length-append (group_bytes (e + 1) g) (groups_bytes (e + 1) gs))

-- what is recovered has no more changes than the bytes are
pub changes_within : (bytes : List ℕ) (records : List Record) (durable : ℕ) → Recovers bytes records durable → length (all_changes records) ≤ length bytes
changes_within bytes records durable (gs, gate, rest, text, law, is, at) =
    let all = groups-long 0 gs in
    let same : length (all_changes records) ≡ length (all_changes (records_of gs)) = ap (λ rs. length (all_changes rs)) is in
    let long : length bytes ≡ length (log_bytes gs ++ gate ∷ rest) = ap length text.text in
    omega (arith, all, same, long, length-append (log_bytes gs) (gate ∷ rest), length-append log_head (groups_bytes 0 gs))
