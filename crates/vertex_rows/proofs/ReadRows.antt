-- What a row shows under its labels.
use Rattle.std.proofs.Common.{◌≡◌, ℕ, ◌<◌, ◌≤◌, ◌+◌, ◌||◌, suc, Bool, true, false, List, [], ◌∷◌, map, length, get_or, refl, ap, sym, subst, ◌∙◌, arith}
use Rattle.std.specs.Prelude.{◌==◌, nat_eq, nat_lt, filter, position, IsPermutation, Option, Some, None}
use Rattle.std.specs.Option.{option_map}
use Rattle.std.specs.List.{list_any, list_all}
use Rattle.std.specs.List.Sorted.{IsStrictlyIncreasing}
use Rattle.std.proofs.lemmas.Bool.{and_parts}
use Rattle.std.proofs.lemmas.List.Folds.{list_any_at}
use Rattle.std.proofs.lemmas.List.Sorted.{Contains-permutation, IsPermutation-sym}
use Rattle.std.proofs.lemmas.Map.Views.{Contains-from_any}
use Rattle.std.proofs.lemmas.Bool.Decides.{nat_tests}
use Rattle.graph_model.specs.declared.pairs.Pair.{Pair}
use Rattle.graph_model.specs.declared.query.Answer.TheVariants.{Value, Absent}
use Rattle.graph_model.specs.Graph.{pairs_in, edge_answer}
use Rattle.graph_model.specs.Whole.{rise}
use Rattle.stamps.specs.Stamps.{Reader}
use Rattle.edge_log.specs.Entries.{shown}
use Rattle.edge_log.specs.Contents.{LogContent, empty_content}
use Rattle.core_rows.specs.Rows.{LabelLog, log_at, has_pairs, with_log, shown_lists}
use Rattle.core_rows.proofs.LogLists.{rise-with_log}
use Rattle.core_rows.proofs.Shown.{pairs_in-shown_lists}
use Rattle.vertex_rows.specs.RowIn.{labelled_in}
use Rattle.vertex_rows.proofs.RowLogs.{place_of, no_place, log_at-labelled, log_at-no_label}

-- The labels of a row rise.
pub rise-labelled : {L R : Type 0} (content : L → R → LogContent) (labels : List ℕ) (logs : List L) (room : R) → rise (map (λ x. x.label) (labelled_in content labels logs room)) ≡ true
rise-labelled content [] logs room = refl
rise-labelled content (l ∷ labels) [] room = refl
rise-labelled content (l ∷ labels) (x ∷ logs) room = rise-with_log (record { label = l; log = content x room }) (labelled_in content labels logs room) (rise-labelled content labels logs room)

-- and are those of its index
named-with_log : (x : LabelLog) (logs : List LabelLog) (q : ℕ) → list_any (nat_eq q) (map (λ y. y.label) (with_log x logs)) ≡ (nat_eq q x.label || list_any (nat_eq q) (map (λ y. y.label) logs))
named-with_log x [] q = refl
named-with_log x (y ∷ logs) q = let rest = named-with_log x logs q in grind (arith, nat_tests, rest)

pub named-labelled : {L R : Type 0} (content : L → R → LogContent) (labels : List ℕ) (logs : List L) (room : R) (q : ℕ) → length labels ≡ length logs →
    list_any (nat_eq q) (map (λ x. x.label) (labelled_in content labels logs room)) ≡ list_any (nat_eq q) labels
named-labelled content [] logs room q same = refl
named-labelled content (l ∷ labels) [] room q same = absurd (omega (arith, same))
named-labelled content (l ∷ labels) (x ∷ logs) room q same =
    named-with_log (record { label = l; log = content x room }) (labelled_in content labels logs room) q
    ∙ ap (λ b. nat_eq q l || b) (named-labelled content labels logs room q (omega (arith, same)))

-- Two lists of numbers that rise and have the same members are the same.
below_all : (m q : ℕ) (xs : List ℕ) → list_all (nat_lt m) xs ≡ true → q ≤ m → list_any (nat_eq q) xs ≡ false
below_all m q [] all le = refl
below_all m q (x ∷ xs) all le =
    let parts = and_parts (nat_lt m x) (list_all (nat_lt m) xs) all in
    let rest = below_all m q xs parts.1 le in
    grind (arith, nat_tests, rest, parts.0, le)

contradiction : true ≡ false → ⊥
contradiction told = cc

heads_same : (x y : ℕ) (xs ys : List ℕ) → list_all (nat_lt x) xs ≡ true → list_all (nat_lt y) ys ≡ true → ((q : ℕ) → list_any (nat_eq q) (x ∷ xs) ≡ list_any (nat_eq q) (y ∷ ys)) → x ≡ y
heads_same x y xs ys all_x all_y same =
    let at_x = same x in
    let at_y = same y in
    let no_x = below_all y x ys all_y in
    let no_y = below_all x y xs all_x in
    grind (arith, nat_tests, at_x, at_y, no_x, no_y)

pub same_members : (xs ys : List ℕ) → rise xs ≡ true → rise ys ≡ true → ((q : ℕ) → list_any (nat_eq q) xs ≡ list_any (nat_eq q) ys) → xs ≡ ys
same_members [] [] up_x up_y same = refl
same_members [] (y ∷ ys) up_x up_y same = let here = same y in absurd (contradiction (grind (arith, nat_tests, here)))
same_members (x ∷ xs) [] up_x up_y same = let here = same x in absurd (contradiction (grind (arith, nat_tests, here)))
same_members (x ∷ xs) (y ∷ ys) up_x up_y same =
    let parts_x = and_parts (list_all (nat_lt x) xs) (rise xs) up_x in
    let parts_y = and_parts (list_all (nat_lt y) ys) (rise ys) up_y in
    let head : x ≡ y = heads_same x y xs ys parts_x.0 parts_y.0 same in
    let rest = same_members xs ys parts_x.1 parts_y.1 (λ q. tail_same q (below_all x q xs parts_x.0) (below_all y q ys parts_y.0) head (same q)) in
    cc
  where
    tail_same : (q : ℕ) → (q ≤ x → list_any (nat_eq q) xs ≡ false) → (q ≤ y → list_any (nat_eq q) ys ≡ false) → x ≡ y → list_any (nat_eq q) (x ∷ xs) ≡ list_any (nat_eq q) (y ∷ ys) → list_any (nat_eq q) xs ≡ list_any (nat_eq q) ys
    tail_same q no_x no_y head all = grind (arith, nat_tests, no_x, no_y, head, all)

-- numbers each of which is below the next one rise
above_head : (x y : ℕ) (ys : List ℕ) → x < y → list_all (nat_lt y) ys ≡ true → list_all (nat_lt x) ys ≡ true
above_head x y [] lt all = refl
above_head x y (z ∷ ys) lt all =
    let parts = and_parts (nat_lt y z) (list_all (nat_lt y) ys) all in
    let rest = above_head x y ys lt parts.1 in
    grind (arith, nat_tests, rest, parts.0, lt)

increasing_tail : (x : ℕ) (ys : List ℕ) → IsStrictlyIncreasing (x ∷ ys) → IsStrictlyIncreasing ys
increasing_tail x ys up k within =
    let next : suc k + 1 ≡ suc (k + 1) = omega arith in
    subst (λ m. get_or ys k 0 < get_or (x ∷ ys) m 0) next (up (suc k) (omega (arith, within)))

pub rise-from_increasing : (xs : List ℕ) → IsStrictlyIncreasing xs → rise xs ≡ true
rise-from_increasing [] up = refl
rise-from_increasing (x ∷ []) up = refl
rise-from_increasing (x ∷ y ∷ xs) up =
    let lt : x < y = up 0 (omega arith) in
    let rest = rise-from_increasing (y ∷ xs) (increasing_tail x (y ∷ xs) up) in
    let parts = and_parts (list_all (nat_lt y) xs) (rise xs) rest in
    let above = above_head x y xs lt parts.0 in
    grind (arith, nat_tests, rest, above, lt)

-- the same members in another order
any_kept : (xs ys : List ℕ) (q : ℕ) → IsPermutation xs ys → list_any (nat_eq q) xs ≡ true → list_any (nat_eq q) ys ≡ true
any_kept xs ys q moved there =
    let found = Contains-permutation xs ys q moved (Contains-from_any {eq = nat_eq} (λ x y same. grind (arith, nat_tests, same)) q xs there) in
    list_any_at (nat_eq q) ys found.0 q found.1 (grind (arith, nat_tests, found.2))

same_test : (a b : Bool) → (a ≡ true → b ≡ true) → (b ≡ true → a ≡ true) → a ≡ b
same_test true b there back = sym (there refl)
same_test false true there back = back refl
same_test false false there back = refl

pub members-permutation : (xs ys : List ℕ) (q : ℕ) → IsPermutation xs ys → list_any (nat_eq q) ys ≡ list_any (nat_eq q) xs
members-permutation xs ys q moved =
    same_test (list_any (nat_eq q) ys) (list_any (nat_eq q) xs) (any_kept ys xs q (IsPermutation-sym xs ys moved)) (any_kept xs ys q moved)

-- the rising labels of an index are those of the row
pub labels_risen : {L R : Type 0} (content : L → R → LogContent) (index labels : List ℕ) (logs : List L) (room : R) → length index ≡ length logs → IsPermutation index labels → IsStrictlyIncreasing labels →
    labels ≡ map (λ x. x.label) (labelled_in content index logs room)
labels_risen content index labels logs room same moved up =
    same_members labels (map (λ x. x.label) (labelled_in content index logs room)) (rise-from_increasing labels up) (rise-labelled content index logs room)
    (λ q. members-permutation index labels q moved ∙ sym (named-labelled content index logs room q same))

-- whether there are edges
pub some_pairs : (xs : List Pair) → nat_lt 0 (length xs) ≡ has_pairs xs
some_pairs [] = refl
some_pairs (x ∷ xs) = grind (arith, nat_tests)

-- The labels that are shown are those whose log shows an edge.
abbrev pub is_shown : List LabelLog → ℕ → Reader → ℕ → Bool
is_shown logs e who l = has_pairs (shown (log_at logs l).entries e who)

-- a log below all of these labels is that of none of them
shown_past : (x : LabelLog) (logs : List LabelLog) (labels : List ℕ) (e : ℕ) (who : Reader) → list_all (nat_lt x.label) labels ≡ true → filter (is_shown (x ∷ logs) e who) labels ≡ filter (is_shown logs e who) labels
shown_past x logs [] e who above = refl
shown_past x logs (l ∷ labels) e who above =
    let parts = and_parts (nat_lt x.label l) (list_all (nat_lt x.label) labels) above in
    let rest = shown_past x logs labels e who parts.1 in
    let other : (x.label == l) ≡ false = grind (arith, nat_tests, parts.0) in
    rw (other, rest) refl

pub labels-shown : (logs : List LabelLog) (e : ℕ) (who : Reader) → rise (map (λ x. x.label) logs) ≡ true →
    map (λ y. y.label) (shown_lists logs e who) ≡ filter (is_shown logs e who) (map (λ x. x.label) logs)
labels-shown [] e who up = refl
labels-shown (x ∷ logs) e who up =
    let parts = and_parts (list_all (nat_lt x.label) (map (λ y. y.label) logs)) (rise (map (λ y. y.label) logs)) up in
    let rest = labels-shown logs e who parts.1 in
    let past = shown_past x logs (map (λ y. y.label) logs) e who parts.0 in
    let own : (x.label == x.label) ≡ true = grind (arith, nat_tests) in
    by_test (has_pairs (shown x.log.entries e who)) refl own (rest ∙ sym past)
  where
    by_test : (b : Bool) → has_pairs (shown x.log.entries e who) ≡ b → (x.label == x.label) ≡ true → map (λ y. y.label) (shown_lists logs e who) ≡ filter (is_shown (x ∷ logs) e who) (map (λ y. y.label) logs)
        → map (λ y. y.label) (shown_lists (x ∷ logs) e who) ≡ filter (is_shown (x ∷ logs) e who) (map (λ y. y.label) (x ∷ logs))
    by_test true some own rest = rw (own, some) (ap (λ ls. x.label ∷ ls) rest)
    by_test false none own rest = rw (own, none) rest

-- What is shown under a label is what its log shows.
pub log_under : {L R : Type 0} (content : L → R → LogContent) (l : ℕ) (labels : List ℕ) (logs : List L) (room : R) (n : ℕ) (x : L) → position (nat_eq l) labels ≡ Some n → length labels ≡ length logs → x ≡ get_or logs n x →
    log_at (labelled_in content labels logs room) l ≡ content x room
log_under content l labels logs room n x at same is =
    let place = place_of l n labels at in
    log_at-labelled content l labels logs room n x place.0 place.1 same ∙ ap (λ log. content log room) (sym is)

pub pairs_under : {L R : Type 0} (content : L → R → LogContent) (l : ℕ) (labels : List ℕ) (logs : List L) (room : R) (n : ℕ) (x : L) (e : ℕ) (who : Reader) → position (nat_eq l) labels ≡ Some n → length labels ≡ length logs → x ≡ get_or logs n x →
    pairs_in (shown_lists (labelled_in content labels logs room) e who) l ≡ shown (content x room).entries e who
pairs_under content l labels logs room n x e who at same is =
    pairs_in-shown_lists (labelled_in content labels logs room) l e who (rise-labelled content labels logs room)
    ∙ ap (λ (log : LogContent). shown log.entries e who) (log_under content l labels logs room n x at same is)

pub no_log_under : {L R : Type 0} (content : L → R → LogContent) (l : ℕ) (labels : List ℕ) (logs : List L) (room : R) → position (nat_eq l) labels ≡ None → log_at (labelled_in content labels logs room) l ≡ empty_content
no_log_under content l labels logs room at = log_at-no_label content l labels logs room (no_place l labels at)

pub no_pairs_under : {L R : Type 0} (content : L → R → LogContent) (l : ℕ) (labels : List ℕ) (logs : List L) (room : R) (e : ℕ) (who : Reader) → position (nat_eq l) labels ≡ None →
    pairs_in (shown_lists (labelled_in content labels logs room) e who) l ≡ []
no_pairs_under content l labels logs room e who at =
    pairs_in-shown_lists (labelled_in content labels logs room) l e who (rise-labelled content labels logs room)
    ∙ ap (λ (log : LogContent). shown log.entries e who) (no_log_under content l labels logs room at)

-- the answer for an edge, by its payload
pub answered : (o : Option Pair) (p : List ℕ) → Some p ≡ option_map (λ x. x.p) o → Value p ≡ edge_answer o
answered None p is = absurd (cc)
answered (Some x) p is = cc

pub absent : (o : Option Pair) → None ≡ option_map (λ x. x.p) o → Absent ≡ edge_answer o
absent None is = refl
absent (Some x) is = absurd (cc)
