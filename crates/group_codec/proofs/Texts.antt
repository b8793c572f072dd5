-- The text of a log with one group more.
use Rattle.std.proofs.Common.{◌≡◌, ℕ, ◌+◌, ◌<◌, ◌≤◌, List, [], ◌∷◌, ◌++◌, length, drop, get_or, sym, ap, ◌∙◌, arith, append-nil, append_assoc, length-append, drop-drop}
use Rattle.std.proofs.lemmas.List.{length-drop}
use Rattle.std.proofs.lemmas.Grind.{get_or_default_zero}
use Rattle.graph_model.specs.declared.record.Record.{Record}
use Rattle.graph_model.proofs.Snapshots.{drop-item}
use Rattle.group_codec.specs.declared.judge.Judge.{Judge}
use Rattle.group_codec.specs.Spelling.{group_bytes}
use Rattle.group_codec.specs.Log.{log_head, groups_bytes, log_bytes}
use Rattle.group_codec.specs.Judging.{IsTaken}
use Rattle.group_codec.proofs.Gates.{IsAtGate}
use Rattle.group_codec.proofs.Grouping.{records_of-push}

pub groups_bytes-append : (k : ℕ) (xs ys : List (List Record)) → groups_bytes k (xs ++ ys) ≡ groups_bytes k xs ++ groups_bytes (k + length xs) ys
groups_bytes-append k [] ys = ap (λ n. groups_bytes n ys) (omega arith)
groups_bytes-append k (g ∷ xs) ys =
    ap (λ bs. 1 ∷ (group_bytes (k + 1) g ++ bs)) (groups_bytes-append (k + 1) xs ys ∙ ap (λ n. groups_bytes (k + 1) xs ++ groups_bytes n ys) (omega arith))
    ∙ ap (λ bs. 1 ∷ bs) (sym (append_assoc (group_bytes (k + 1) g) (groups_bytes (k + 1) xs) (groups_bytes (k + length (g ∷ xs)) ys)))

pub log_bytes-push : (groups : List (List Record)) (g : List Record) → log_bytes (groups ++ g ∷ []) ≡ log_bytes groups ++ 1 ∷ group_bytes (length groups + 1) g
log_bytes-push groups g =
    ap (λ bs. log_head ++ bs) (groups_bytes-append 0 groups (g ∷ []) ∙ ap (λ bs. groups_bytes 0 groups ++ 1 ∷ bs) (append-nil (group_bytes (0 + length groups + 1) g) ∙ ap (λ n. group_bytes n g) (omega arith)))
    ∙ sym (append_assoc log_head (groups_bytes 0 groups) (1 ∷ group_bytes (length groups + 1) g))

-- each group takes a byte at least
groups-short : (k : ℕ) (groups : List (List Record)) → length groups ≤ length (groups_bytes k groups)
groups-short k [] = omega arith
groups-short k (g ∷ groups) = omega (arith, groups-short (k + 1) groups, length-append (group_bytes (k + 1) g) (groups_bytes (k + 1) groups))

pub count-short : (groups : List (List Record)) → length groups ≤ length (log_bytes groups)
count-short groups = omega (arith, groups-short 0 groups, length-append log_head (groups_bytes 0 groups))

-- behind an open gate stands the next group
pub at-open : (bytes : List ℕ) (place : ℕ) → place < length bytes → get_or bytes place 0 ≡ 1 → drop place bytes ≡ 1 ∷ drop (place + 1) bytes
at-open bytes place within gate = drop-item bytes place 1 within (sym gate ∙ sym (get_or_default_zero bytes place 1 within))

-- one group more
pub at-gate : (bytes : List ℕ) (judge new : Judge) (records now : List Record) (place count size : ℕ) (groups : List (List Record)) (g : List Record) →
    IsAtGate bytes judge records place count groups → get_or bytes place 0 ≡ 1 → IsTaken (count + 1) (drop (place + 1) bytes) judge new records now size g →
    IsAtGate bytes new now (place + (1 + size)) (count + 1) (groups ++ g ∷ [])
at-gate bytes judge new records now place count size groups g gate is taken =
    let open_at = at-open bytes place gate.within is in
    let one : count + 1 ≡ length groups + 1 = omega (arith, gate.counted) in
    let push = log_bytes-push groups g in
    let behind : drop size (drop (place + 1) bytes) ≡ drop (place + (1 + size)) bytes = drop-drop size (place + 1) bytes ∙ ap (λ n. drop n bytes) (omega arith) in
    let text : drop (place + 1) bytes ≡ group_bytes (length groups + 1) g ++ drop (place + (1 + size)) bytes =
    taken.text ∙ ap (λ n. group_bytes n g ++ drop size (drop (place + 1) bytes)) one ∙ ap (λ xs. group_bytes (length groups + 1) g ++ xs) behind in
    let long = ap (λ n. length (group_bytes n g)) one in
    record {
      stands = taken.stands groups gate.stands one;
      known = taken.added ∙ ap (λ rs. rs ++ g) gate.known ∙ sym (records_of-push groups g);
      counted = omega (arith, gate.counted, length-append groups (g ∷ []));
      text =
          gate.text ∙ ap (λ xs. log_bytes groups ++ xs) open_at ∙ ap (λ xs. log_bytes groups ++ 1 ∷ xs) text
          ∙ sym (append_assoc (log_bytes groups) (1 ∷ group_bytes (length groups + 1) g) (drop (place + (1 + size)) bytes)) ∙ ap (λ xs. xs ++ drop (place + (1 + size)) bytes) (sym push);
      long = omega (arith, ap length push, length-append (log_bytes groups) (1 ∷ group_bytes (length groups + 1) g), gate.long, taken.long, long);
      within = omega (arith, taken.within, length-drop (place + 1) bytes);
    }
