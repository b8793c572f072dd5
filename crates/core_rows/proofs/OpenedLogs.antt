-- The logs that a run starts with, as they are made.
use Rattle.std.proofs.Common.{◌≡◌, ℕ, zero, suc, ◌+◌, ◌<◌, ◌&&◌, Bool, take, drop, drop-cons, add-one, get_or, List, [], ◌∷◌, ◌++◌, map, length, refl, sym, ap, ◌∙◌, arith, true}
use Rattle.std.specs.Prelude.{nat_lt, Option, Some, None}
use Rattle.std.specs.List.{list_all, slice_get}
use Rattle.std.proofs.lemmas.Option.{slice_get_within, get_or_from_slice_get}
use Rattle.std.proofs.lemmas.Bool.{and_parts}
use Rattle.std.proofs.lemmas.Bool.Decides.{nat_tests}
use Rattle.graph_model.specs.declared.pairs.Pair.{Pair}
use Rattle.graph_model.specs.Graph.{vertex_at, pairs_in}
use Rattle.graph_model.specs.Vertex.{Vertex, LabelList}
use Rattle.graph_model.specs.Whole.{rise, are_pairs, is_vertex, is_graph}
use Rattle.graph_model.proofs.Wholes.{is_place, vertex_at-whole}
use Rattle.std.proofs.lemmas.List.{map_push, take_more}
use Rattle.stamps.specs.declared.stamp.Stamp.TheVariants.{Never, At}
use Rattle.edge_log.specs.Entries.{Entry, fresh_entry, converted}
use Rattle.edge_log.specs.Contents.{LogContent, with_converted}
use Rattle.core_rows.specs.Rows.{LabelLog, with_log}
use Rattle.core_rows.specs.Openings.{opened_entries, opened_log, opened_logs, lists_in}

-- edges that are private to number 0
abbrev pub pending_entries : List Pair → List Entry
pending_entries [] = []
pending_entries (x ∷ xs) = fresh_entry x.d x.p 0 ∷ pending_entries xs

abbrev pub pending_log : List Pair → LogContent
pending_log pairs = record { entries = pending_entries pairs; committed = 0; epoch = 0 }

converted-pending : (e : ℕ) (xs : List Pair) → converted 0 e (pending_entries xs) ≡ opened_entries e xs
converted-pending e [] = refl
converted-pending e (x ∷ xs) = ap (λ es. record { d = x.d; p = x.p; created = At e; ended = Never } ∷ es) (converted-pending e xs)

length-pending : (xs : List Pair) → length (pending_entries xs) ≡ length xs
length-pending [] = refl
length-pending (x ∷ xs) = omega (arith, length-pending xs)

pub opened-pending : (e : ℕ) (xs : List Pair) → with_converted 0 e (pending_log xs) ≡ opened_log e xs
opened-pending e xs = rw (converted-pending e xs, length-pending xs)

-- the logs of some labels of a vertex with these lists
abbrev pub labelled_logs : ℕ → List LabelList → List ℕ → List LabelLog
labelled_logs e lists labels = map (λ l. record { label = l; log = opened_log e (pairs_in lists l) }) labels

-- the log of a label above all others stands last
pub with_log-last : (x : LabelLog) (logs : List LabelLog) → list_all (λ y. nat_lt y.label x.label) logs ≡ true → with_log x logs ≡ logs ++ x ∷ []
with_log-last x [] above = refl
with_log-last x (y ∷ logs) above =
    let parts = and_parts (nat_lt y.label x.label) (list_all (λ z. nat_lt z.label x.label) logs) above in
    let rest = with_log-last x logs parts.1 in
    grind (arith, nat_tests, rest, parts.0)

-- a list below all labels changes no log of them
labelled-past : (e : ℕ) (x : LabelList) (lists : List LabelList) (labels : List ℕ) → list_all (nat_lt x.label) labels ≡ true → labelled_logs e (x ∷ lists) labels ≡ labelled_logs e lists labels
labelled-past e x lists [] above = refl
labelled-past e x lists (l ∷ labels) above =
    let parts = and_parts (nat_lt x.label l) (list_all (nat_lt x.label) labels) above in
    let rest = labelled-past e x lists labels parts.1 in
    grind (arith, nat_tests, rest, parts.0)

-- the logs of all labels are those of all lists
pub labelled-all : (e : ℕ) (lists : List LabelList) → rise (map (λ y. y.label) lists) ≡ true → labelled_logs e lists (map (λ y. y.label) lists) ≡ opened_logs e lists
labelled-all e [] up = refl
labelled-all e (x ∷ lists) up =
    let parts = and_parts (list_all (nat_lt x.label) (map (λ y. y.label) lists)) (rise (map (λ y. y.label) lists)) up in
    let rest = labelled-past e x lists (map (λ y. y.label) lists) parts.0 ∙ labelled-all e lists parts.1 in
    first_list e x lists rest
  where
    first_list : (e : ℕ) (x : LabelList) (lists : List LabelList) → labelled_logs e (x ∷ lists) (map (λ y. y.label) lists) ≡ opened_logs e lists
        → labelled_logs e (x ∷ lists) (map (λ y. y.label) (x ∷ lists)) ≡ opened_logs e (x ∷ lists)
    first_list e x lists rest = grind (arith, nat_tests, rest)

labelled-below : (e m : ℕ) (lists : List LabelList) (labels : List ℕ) → list_all (λ y. nat_lt y.label m) (labelled_logs e lists labels) ≡ list_all (λ n. nat_lt n m) labels
labelled-below e m lists [] = refl
labelled-below e m lists (l ∷ labels) = ap (λ b. nat_lt l m && b) (labelled-below e m lists labels)

all-get : (p : ℕ → Bool) (xs : List ℕ) (i d : ℕ) → list_all p xs ≡ true → i < length xs → p (get_or xs i d) ≡ true
all-get p [] i d all lt = absurd (omega arith)
all-get p (x ∷ xs) zero d all lt = (and_parts (p x) (list_all p xs) all).0
all-get p (x ∷ xs) (suc i) d all lt = all-get p xs i d (and_parts (p x) (list_all p xs) all).1 (omega arith)

-- the labels before a place are below that at the place
below_next : (labels : List ℕ) (i d : ℕ) → rise labels ≡ true → i < length labels → list_all (λ n. nat_lt n (get_or labels i d)) (take i labels) ≡ true
below_next [] i d up lt = absurd (omega arith)
below_next (x ∷ labels) zero d up lt = refl
below_next (x ∷ labels) (suc i) d up lt =
    let parts = and_parts (list_all (nat_lt x) labels) (rise labels) up in
    let rest = below_next labels i d parts.1 (omega arith) in
    let here = all-get (nat_lt x) labels i d parts.0 (omega arith) in
    grind (arith, rest, here)

-- one more log
pub labelled-more : (e : ℕ) (lists : List LabelList) (labels : List ℕ) (i d : ℕ) → rise labels ≡ true → i < length labels →
    with_log (record { label = get_or labels i d; log = opened_log e (pairs_in lists (get_or labels i d)) }) (labelled_logs e lists (take i labels)) ≡ labelled_logs e lists (take (i + 1) labels)
labelled-more e lists labels i d up lt =
    let l = get_or labels i d in
    with_log-last (record { label = l; log = opened_log e (pairs_in lists l) }) (labelled_logs e lists (take i labels)) (labelled-below e l lists (take i labels) ∙ below_next labels i d up lt)
    ∙ sym (map_push (λ n. record { label = n; log = opened_log e (pairs_in lists n) }) (take i labels) l)
    ∙ ap (labelled_logs e lists) (sym (take_more labels i d lt))

-- The labels of a vertex of a whole graph rise.
pub labels-rise : (v : ℕ) (graph : List Vertex) → is_graph graph ≡ true → rise (map (λ y. y.label) (lists_in (vertex_at v graph))) ≡ true
labels-rise v graph whole = by_place (vertex_at v graph) (vertex_at-whole v graph (and_parts (rise (map (λ y. y.number) graph)) (list_all is_vertex graph) whole).1)
  where
    by_place : (o : Option Vertex) → is_place o ≡ true → rise (map (λ y. y.label) (lists_in o)) ≡ true
    by_place None good = refl
    by_place (Some x) good = (and_parts (rise (map (λ y. y.label) x.lists)) (list_all (λ y. nat_lt 0 (length y.pairs) && are_pairs y.pairs) x.lists) good).0

-- the edge at a place and those after it
pub drop_here : (xs : List Pair) (i n : ℕ) (x : Pair) → n ≡ i + 1 → slice_get xs i ≡ Some x → drop i xs ≡ x ∷ drop n xs
drop_here xs i n x next at =
    let lt : i < length xs = slice_get_within xs i x at in
    let is = get_or_from_slice_get xs i x x at in
    drop-cons xs i x lt ∙ ap (λ y. y ∷ drop (suc i) xs) is ∙ ap (λ k. x ∷ drop k xs) (sym (next ∙ add-one i))

-- the labels of the logs are those of the lists
pub labels-opened : (e : ℕ) (lists : List LabelList) → map (λ y. y.label) (opened_logs e lists) ≡ map (λ y. y.label) lists
labels-opened e [] = refl
labels-opened e (x ∷ lists) = ap (λ ls. x.label ∷ ls) (labels-opened e lists)
