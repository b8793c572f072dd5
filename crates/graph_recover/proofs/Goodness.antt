-- The base of a lawful list of records is good.
use Rattle.std.proofs.Common.{◌≡◌, ℕ, ◌+◌, ◌<◌, Bool, true, false, not, cond, ◌&&◌, List, [], ◌∷◌, map, length, refl, sym, ap, ◌∙◌, arith}
use Rattle.std.specs.Prelude.{◌==◌, nat_lt, nat_le, Option, Some, None}
use Rattle.std.specs.List.{list_all}
use Rattle.std.proofs.lemmas.Bool.{and_parts, and_from, eqb-true, leb-true, le-leb, lt-ltb}
use Rattle.std.proofs.lemmas.List.Folds.{list_all-append}
use Rattle.graph_model.specs.declared.change.Change.{Change}
use Rattle.graph_model.specs.declared.change.Change.TheVariants.{New, Set, Drop, Put, Del}
use Rattle.graph_model.specs.declared.record.Record.{Record}
use Rattle.graph_model.specs.declared.pairs.Pair.{Pair}
use Rattle.graph_model.specs.Vertex.{Vertex, LabelList}
use Rattle.graph_model.specs.Change.{vertex_of}
use Rattle.graph_model.specs.Graph.{vertex_at, pairs_in, without_pair, set_list, lists_after_put, lists_after_del, vertex_after, set_vertex, apply, after, at}
use Rattle.graph_model.specs.Records.{number_end, destination_end, all_changes, made_vertices, last_epoch, begins_after, goes_on, has_destination, is_record, is_good_vertex, lists_fit, Lawful, IsGood}
use Rattle.graph_model.proofs.Rising.{list_all-placed, list_all-filter}
use Rattle.graph_model.proofs.Wholes.{with_list-placed, with_vertex-placed, is_graph-after}
use Rattle.graph_recover.specs.Bases.{greatest_of, base_of}
use Rattle.graph_recover.proofs.Greatest.{record-numbers, numbers-below, made-below}
use Rattle.graph_recover.proofs.Numbered.{no_more_than}
use Rattle.graph_recover.proofs.Epochs.{begins-goes_on, last-between, none-after_last, last-passes}
use Rattle.graph_recover.proofs.Snapshots.{at-all}

-- destinations are below the end
abbrev is_within : Pair → Bool
is_within z = nat_lt z.d destination_end

abbrev is_good_list : LabelList → Bool
is_good_list y = list_all is_within y.pairs

-- ---- each vertex

good-pairs : (l : ℕ) (lists : List LabelList) → list_all is_good_list lists ≡ true → list_all is_within (pairs_in lists l) ≡ true
good-pairs l [] all = refl
good-pairs l (x ∷ lists) all =
    let parts = and_parts (is_good_list x) (list_all is_good_list lists) all in
    elim (x.label == l) as (λ b. list_all is_within (cond b x.pairs (pairs_in lists l)) ≡ true) [ true ↦ parts.0 | false ↦ good-pairs l lists parts.1 ]

good-set_list : (l : ℕ) (pairs : List Pair) (lists : List LabelList) → list_all is_within pairs ≡ true → list_all is_good_list lists ≡ true → list_all is_good_list (set_list l pairs lists) ≡ true
good-set_list l [] lists within all = list_all-filter is_good_list (λ x. not (x.label == l)) lists all
good-set_list l (z ∷ pairs) lists within all =
    let x : LabelList = record { label = l; pairs = z ∷ pairs } in
    ap (list_all is_good_list) (with_list-placed x lists) ∙ list_all-placed (λ y. y.label) is_good_list x lists within all

good-put : (l d : ℕ) (p : List ℕ) (lists : List LabelList) → nat_lt d destination_end ≡ true → list_all is_good_list lists ≡ true → list_all is_good_list (lists_after_put l d p lists) ≡ true
good-put l d p lists within all =
    good-set_list l (record { d = d; p = p } ∷ without_pair d (pairs_in lists l)) lists
    (and_from _ _ within (list_all-filter is_within (λ x. not (x.d == d)) (pairs_in lists l) (good-pairs l lists all))) all

good-del : (l d : ℕ) (lists : List LabelList) → list_all is_good_list lists ≡ true → list_all is_good_list (lists_after_del l d lists) ≡ true
good-del l d lists all =
    good-set_list l (without_pair d (pairs_in lists l)) lists (list_all-filter is_within (λ x. not (x.d == d)) (pairs_in lists l) (good-pairs l lists all)) all

-- what stands in a place is good
abbrev is_good_place : ℕ → Option Vertex → Bool
is_good_place next None = true
is_good_place next (Some x) = is_good_vertex next x

good-vertex_at : (next v : ℕ) (g : List Vertex) → list_all (is_good_vertex next) g ≡ true → is_good_place next (vertex_at v g) ≡ true
good-vertex_at next v [] all = refl
good-vertex_at next v (x ∷ g) all =
    let parts = and_parts (is_good_vertex next x) (list_all (is_good_vertex next) g) all in
    elim (x.number == v) as (λ b. is_good_place next (cond b (Some x) (vertex_at v g)) ≡ true) [ true ↦ parts.0 | false ↦ good-vertex_at next v g parts.1 ]

-- the numbers of the vertices that a change makes are from 1 and below the next
abbrev is_new_number : ℕ → ℕ → Bool
is_new_number next v = nat_lt 0 v && nat_lt v next

good-with_lists : (next : ℕ) (x : Vertex) (lists : List LabelList) → is_good_vertex next x ≡ true → list_all is_good_list lists ≡ true → is_good_vertex next (record x { lists = lists }) ≡ true
good-with_lists next x lists good all = and_from _ _ (and_parts (nat_lt 0 x.number && nat_lt x.number next) (list_all is_good_list x.lists) good).0 all

lists-of_good : (next : ℕ) (x : Vertex) → is_good_vertex next x ≡ true → list_all is_good_list x.lists ≡ true
lists-of_good next x good = (and_parts (nat_lt 0 x.number && nat_lt x.number next) (list_all is_good_list x.lists) good).1

good-vertex_after : (next : ℕ) (c : Change) (here : Option Vertex) → list_all (is_new_number next) (made_vertices (c ∷ [])) ≡ true → has_destination c ≡ true → is_good_place next here ≡ true → is_good_place next (vertex_after c here) ≡ true
good-vertex_after next (New v p) here new within good = and_from _ _ (and_parts (is_new_number next v) true new).0 refl
good-vertex_after next (Drop v) here new within good = refl
good-vertex_after next (Set v p) (Some x) new within good = good
good-vertex_after next (Put v l d p) (Some x) new within good = good-with_lists next x (lists_after_put l d p x.lists) good (good-put l d p x.lists within (lists-of_good next x good))
good-vertex_after next (Del v l d) (Some x) new within good = good-with_lists next x (lists_after_del l d x.lists) good (good-del l d x.lists (lists-of_good next x good))
good-vertex_after next (Set v p) None new within good = refl
good-vertex_after next (Put v l d p) None new within good = refl
good-vertex_after next (Del v l d) None new within good = refl

good-set_vertex : (next v : ℕ) (here : Option Vertex) (g : List Vertex) → is_good_place next here ≡ true → list_all (is_good_vertex next) g ≡ true → list_all (is_good_vertex next) (set_vertex v here g) ≡ true
good-set_vertex next v None g good all = list_all-filter (is_good_vertex next) (λ x. not (x.number == v)) g all
good-set_vertex next v (Some x) g good all = ap (list_all (is_good_vertex next)) (with_vertex-placed x g) ∙ list_all-placed (λ y. y.number) (is_good_vertex next) x g good all

-- the vertices of one change come first
made-first : (test : ℕ → Bool) (c : Change) (cs : List Change) → list_all test (made_vertices (c ∷ cs)) ≡ true → (list_all test (made_vertices (c ∷ [])) ≡ true) × (list_all test (made_vertices cs) ≡ true)
made-first test (New v p) cs all = let parts = and_parts (test v) (list_all test (made_vertices cs)) all in (and_from _ _ parts.0 refl, parts.1)
made-first test (Set v p) cs all = (refl, all)
made-first test (Drop v) cs all = (refl, all)
made-first test (Put v l d p) cs all = (refl, all)
made-first test (Del v l d) cs all = (refl, all)

good-after : (next : ℕ) (cs : List Change) (g : List Vertex) → list_all (is_new_number next) (made_vertices cs) ≡ true → list_all has_destination cs ≡ true → list_all (is_good_vertex next) g ≡ true → list_all (is_good_vertex next) (after cs g) ≡ true
good-after next [] g new within all = all
good-after next (c ∷ cs) g new within all =
    let made = made-first (is_new_number next) c cs new in
    let parts = and_parts (has_destination c) (list_all has_destination cs) within in
    let here = good-vertex_after next c (vertex_at (vertex_of c) g) made.0 parts.0 (good-vertex_at next (vertex_of c) g all) in
    good-after next cs (apply c g) made.1 parts.1 (good-set_vertex next (vertex_of c) (vertex_after c (vertex_at (vertex_of c) g)) g here all)

-- ---- what the rules say of the changes

-- each number is at most the greatest
new-numbers : (next : ℕ) (vs : List ℕ) → list_all (λ v. nat_le 1 v && nat_lt v number_end) vs ≡ true → greatest_of vs < next → list_all (is_new_number next) vs ≡ true
new-numbers next [] each below = refl
new-numbers next (v ∷ vs) each below =
    let parts = and_parts (nat_le 1 v && nat_lt v number_end) (list_all (λ w. nat_le 1 w && nat_lt w number_end) vs) each in
    let low = leb-true 1 v (and_parts (nat_le 1 v) (nat_lt v number_end) parts.0).0 in
    and_from _ _ (and_from _ _ (lt-ltb 0 v (omega (arith, low))) (lt-ltb v next (omega (arith, below)))) (new-numbers next vs parts.1 (omega (arith, below)))

destinations : (rs : List Record) → list_all (is_record 0 1) rs ≡ true → list_all has_destination (all_changes rs) ≡ true
destinations [] each = refl
destinations (r ∷ rs) each =
    let parts = and_parts (is_record 0 1 r) (list_all (is_record 0 1) rs) each in
    list_all-append has_destination r.changes (all_changes rs) ∙ and_from _ _ (record-destinations r parts.0) (destinations rs parts.1)
  where
    record-destinations : (s : Record) → is_record 0 1 s ≡ true → list_all has_destination s.changes ≡ true
    record-destinations s ok = (and_parts _ (list_all has_destination s.changes) ok).1

-- ---- the base

lists-at_last : (rs : List Record) → goes_on 0 rs ≡ true → list_all (λ r. lists_fit (at [] rs r.epoch)) rs ≡ true → lists_fit (after (all_changes rs) []) ≡ true
lists-at_last [] on all = refl
lists-at_last (r ∷ rs) on all =
    ap lists_fit (sym (at-all (last_epoch 0 (r ∷ rs)) (r ∷ rs) (none-after_last 0 (r ∷ rs) on))) ∙ last-passes (λ e. lists_fit (at [] (r ∷ rs) e)) 0 r rs all

tids-from_1 : (rs : List Record) → list_all (is_record 0 1) rs ≡ true → list_all (nat_le 1) (map (λ r. r.tid) rs) ≡ true
tids-from_1 [] each = refl
tids-from_1 (r ∷ rs) each =
    let parts = and_parts (is_record 0 1 r) (list_all (is_record 0 1) rs) each in
    and_from _ _ (le-leb 1 r.tid (record-numbers 0 1 r parts.0).0) (tids-from_1 rs parts.1)

tids-length : (rs : List Record) → length (map (λ r. r.tid) rs) ≡ length rs
tids-length [] = refl
tids-length (r ∷ rs) = let rest = tids-length rs in omega (arith, rest)

no-epoch : (rs : List Record) → begins_after 0 rs ≡ true → last_epoch 0 rs ≡ 0 → after (all_changes rs) [] ≡ []
no-epoch [] begins none = refl
no-epoch (r ∷ rs) begins none =
    let parts = and_parts (r.epoch == 1) (goes_on r.epoch rs) begins in
    let first = eqb-true r.epoch 1 parts.0 in
    let up = (last-between r.epoch rs parts.1).0 in
    absurd (omega (arith, first, up, none))

pub base-good : (rs : List Record) → Lawful rs → IsGood (base_of rs)
base-good rs law =
    let on = begins-goes_on 0 rs law.epochs in
    let few = (last-between 0 rs on).1 in
    let count = no_more_than (map (λ r. r.tid) rs) (tids-from_1 rs law.each) law.numbers in
    let tids = numbers-below rs law.each in
    let made = made-below rs law.made in
    let next = greatest_of (made_vertices (all_changes rs)) + 1 in
    record {
      graph = is_graph-after (all_changes rs) [] refl;
      vertices = good-after next (all_changes rs) [] (new-numbers next (made_vertices (all_changes rs)) law.made (omega arith)) (destinations rs law.each) refl;
      lists = lists-at_last rs on law.lists;
      epoch = lt-ltb (last_epoch 0 rs) (greatest_of (map (λ r. r.tid) rs) + 1) (omega (arith, few, count, tids-length rs));
      numbers = and_from _ _ (and_from _ _ (and_from _ _ (lt-ltb 0 (greatest_of (map (λ r. r.tid) rs) + 1) (omega arith)) (le-leb (greatest_of (map (λ r. r.tid) rs) + 1) number_end (omega (arith, tids)))) (lt-ltb 0 next (omega arith))) (le-leb next number_end (omega (arith, made)));
      beginning = no-epoch rs law.epochs;
    }
