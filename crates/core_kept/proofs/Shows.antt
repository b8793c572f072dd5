-- What the rows show is the graph of the records.
use Rattle.std.proofs.Common.{◌≡◌, ◌≢◌, ℕ, ◌<◌, ◌≤◌, Bool, true, false, not, ◌&&◌, List, [], ◌∷◌, ◌++◌, map, filter, length, refl, sym, ap, ◌∙◌, subst, arith, Option, Some, None, ⊎_elim}
use Rattle.std.proofs.lemmas.Bool.{cases_eq, cases_lt, eq-eqb, eqb-true, ne_eqb, and_parts, false≢true, true≢false}
use Rattle.std.proofs.lemmas.Bool.Decides.{nat_tests}
use Rattle.std.specs.Prelude.{if◌then◌else◌, ◌==◌, nat_le, nat_lt}
use Rattle.std.specs.List.{list_any, list_all}
use Rattle.graph_model.specs.declared.change.Change.{Change}
use Rattle.graph_model.specs.declared.change.Change.TheVariants.{New, Set, Drop, Put, Del}
use Rattle.graph_model.specs.declared.graph.Base.{Base}
use Rattle.graph_model.specs.declared.pairs.Pair.{Pair}
use Rattle.graph_model.specs.declared.record.Record.{Record}
use Rattle.graph_model.specs.Vertex.{Vertex, LabelList}
use Rattle.graph_model.specs.Whole.{rise, are_pairs, is_vertex, is_graph}
use Rattle.graph_model.specs.Graph.{vertex_at, vertex_after, pairs_in, without_pair, with_list, set_list, changes_until, at}
use Rattle.graph_model.specs.Places.{changes_about, place_after}
use Rattle.graph_model.proofs.Places.{vertex_at-after}
use Rattle.graph_model.proofs.Wholes.{are_pairs-put, are_pairs-without, is_place, vertex_at-whole, is_graph-after}
use Rattle.graph_model.proofs.Vertices.{HasNumber}
use Rattle.stamps.specs.Stamps.{Reader, Nobody}
use Rattle.edge_log.specs.Entries.{shown}
use Rattle.core_rows.specs.Rows.{Row, LabelLog, log_at, Life, Unborn, There, Gone, is_there, newest, has_pairs, shown_lists, living_vertex, shown_vertex}
use Rattle.row_pasts.specs.Lives.{life_step, lives, without, list_step, lists, fits, all_fit, Past, until, stamped}
use Rattle.row_pasts.specs.RowFits.{RowFits, Rooted}
use Rattle.core_kept.specs.Good.{records_but, past_of, is_of, root, root_at}
use Rattle.row_pasts.proofs.LabelLogs.{labels_of}
use Rattle.row_pasts.proofs.Pasts.{front, all_fit-append, until-append}
use Rattle.core_kept.proofs.Changing.{on-append}

until-stamped : (e h : ℕ) (cs : List Change) → until e (stamped h cs) ≡ (if nat_le h e then cs else [])
until-stamped e h [] = by_test (nat_le h e) []
  where
    by_test : (b : Bool) (x : List Change) → x ≡ (if b then x else x)
    by_test true x = refl
    by_test false x = refl
until-stamped e h (c ∷ cs) = by_test (nat_le h e) (until-stamped e h cs)
  where
    by_test : (b : Bool) → until e (stamped h cs) ≡ (if b then cs else []) → (if b then c ∷ until e (stamped h cs) else until e (stamped h cs)) ≡ (if b then c ∷ cs else [])
    by_test true ih = ap (λ l. c ∷ l) ih
    by_test false ih = ih

-- the changes up to an epoch, record by record
upto_first : (e : ℕ) (r : Record) (rs : List Record) → changes_until e (r ∷ rs) ≡ (if nat_le r.epoch e then r.changes ++ changes_until e rs else changes_until e rs)
upto_first e r rs = by_test (nat_le r.epoch e) refl
  where
    by_test : (b : Bool) → nat_le r.epoch e ≡ b → changes_until e (r ∷ rs) ≡ (if b then r.changes ++ changes_until e rs else changes_until e rs)
    by_test true h = rw h refl
    by_test false h = rw h refl

-- The past of a vertex up to an epoch is what the records up to it changed there.
pub until_past : (rs : List Record) (v e : ℕ) (skip : Option ℕ) → until e (past_of rs v skip) ≡ changes_about v (changes_until e (records_but skip rs))
until_past [] v e skip = refl
until_past (r ∷ rs) v e skip = by_skip (is_of skip r.tid) (until-stamped e r.epoch (changes_about v r.changes)) (until_past rs v e skip)
  where
    by_epoch : (c : Bool) → until e (stamped r.epoch (changes_about v r.changes)) ≡ (if c then changes_about v r.changes else []) → until e (past_of rs v skip) ≡ changes_about v (changes_until e (records_but skip rs))
        → until e (stamped r.epoch (changes_about v r.changes)) ++ until e (past_of rs v skip) ≡ changes_about v (if c then r.changes ++ changes_until e (records_but skip rs) else changes_until e (records_but skip rs))
    by_epoch true now ih = (λ i. now i ++ ih i) ∙ sym (on-append v r.changes (changes_until e (records_but skip rs)))
    by_epoch false now ih = λ i. now i ++ ih i

    by_skip : (b : Bool) → until e (stamped r.epoch (changes_about v r.changes)) ≡ (if nat_le r.epoch e then changes_about v r.changes else []) → until e (past_of rs v skip) ≡ changes_about v (changes_until e (records_but skip rs))
        → until e (if b then past_of rs v skip else stamped r.epoch (changes_about v r.changes) ++ past_of rs v skip) ≡ changes_about v (changes_until e (if b then records_but skip rs else r ∷ records_but skip rs))
    by_skip true now ih = ih
    by_skip false now ih =
        until-append e (stamped r.epoch (changes_about v r.changes)) (past_of rs v skip) ∙ by_epoch (nat_le r.epoch e) now ih
        ∙ ap (changes_about v) (sym (upto_first e r (records_but skip rs)))

-- ---- the lists of a vertex

pairs-filter : (l m : ℕ) (lists : List LabelList) → pairs_in (filter (λ x. not (x.label == l)) lists) m ≡ (if l == m then [] else pairs_in lists m)
pairs-filter l m [] = by_test (l == m)
  where
    by_test : (b : Bool) → ◌≡◌ {A = List Pair} [] (if b then [] else [])
    by_test true = refl
    by_test false = refl
pairs-filter l m (x ∷ lists) = let ih = pairs-filter l m lists in grind (arith, nat_tests, ih)

pairs-with : (x : LabelList) (m : ℕ) (lists : List LabelList) → pairs_in (with_list x lists) m ≡ (if x.label == m then x.pairs else pairs_in lists m)
pairs-with x m [] = refl
pairs-with x m (y ∷ lists) = let ih = pairs-with x m lists in grind (arith, nat_tests, ih)

-- a list that is set stands at its label, and the others stay
pub pairs_in-set : (l m : ℕ) (pairs : List Pair) (lists : List LabelList) → pairs_in (set_list l pairs lists) m ≡ (if l == m then pairs else pairs_in lists m)
pairs_in-set l m [] lists = pairs-filter l m lists
pairs_in-set l m (x ∷ pairs) lists = pairs-with (record { label = l; pairs = x ∷ pairs }) m lists

without_none : (d : ℕ) (pairs : List Pair) → list_any (λ y. y == d) (map (λ z. z.d) pairs) ≡ false → without_pair d pairs ≡ pairs
without_none d [] none = refl
without_none d (x ∷ pairs) none = let ih = without_none d pairs in grind (arith, nat_tests, ih)

-- where destinations differ, the first edge to one is all of them
pub without_same : (d : ℕ) (pairs : List Pair) → are_pairs pairs ≡ true → without_pair d pairs ≡ without d pairs
without_same d [] differ = refl
without_same d (x ∷ pairs) differ = by_d (x.d == d) refl (without_same d pairs)
  where
    parts : (not (list_any (λ y. y == x.d) (map (λ z. z.d) pairs)) ≡ true) × (are_pairs pairs ≡ true)
    parts = and_parts (not (list_any (λ y. y == x.d) (map (λ z. z.d) pairs))) (are_pairs pairs) differ

    not_true : (b : Bool) → not b ≡ true → b ≡ false
    not_true false e = refl
    not_true true e = absurd (false≢true e)

    by_d : (b : Bool) → (x.d == d) ≡ b → (are_pairs pairs ≡ true → without_pair d pairs ≡ without d pairs) → without_pair d (x ∷ pairs) ≡ without d (x ∷ pairs)
    by_d true e ih = rw e (without_none d pairs (ap (λ n. list_any (λ y. y == n) (map (λ z. z.d) pairs)) (sym (eqb-true x.d d e)) ∙ not_true (list_any (λ y. y == x.d) (map (λ z. z.d) pairs)) parts.0))
    by_d false e ih = rw e (ap (λ l. x ∷ l) (ih parts.1))

-- A vertex of the graph, its life and its lists agree.
abbrev pub Agree : Option Vertex → Life → (ℕ → List Pair) → Type 0
Agree None x f = is_there x ≡ false
Agree (Some n) x f = (x ≡ There n.payload) × ((l : ℕ) → pairs_in n.lists l ≡ f l) × ((l : ℕ) → are_pairs (f l) ≡ true)

put_list : (n : Vertex) (f : ℕ → List Pair) (l d : ℕ) (p : List ℕ) (v : ℕ) → ((m : ℕ) → pairs_in n.lists m ≡ f m) → ((m : ℕ) → are_pairs (f m) ≡ true) → (m : ℕ)
    → pairs_in (set_list l (record { d = d; p = p } ∷ without_pair d (pairs_in n.lists l)) n.lists) m ≡ list_step m (Put v l d p) (f m)
put_list n f l d p v same differ m = pairs_in-set l m (record { d = d; p = p } ∷ without_pair d (pairs_in n.lists l)) n.lists ∙ by_label (l == m) refl
  where
    by_label : (b : Bool) → (l == m) ≡ b → (if b then record { d = d; p = p } ∷ without_pair d (pairs_in n.lists l) else pairs_in n.lists m) ≡ (if b then record { d = d; p = p } ∷ without d (f m) else f m)
    by_label true e = ap (λ xs. record { d = d; p = p } ∷ xs) (ap (without_pair d) (ap (pairs_in n.lists) (eqb-true l m e) ∙ same m) ∙ without_same d (f m) (differ m))
    by_label false e = same m

del_list : (n : Vertex) (f : ℕ → List Pair) (l d v : ℕ) → ((m : ℕ) → pairs_in n.lists m ≡ f m) → ((m : ℕ) → are_pairs (f m) ≡ true) → (m : ℕ)
    → pairs_in (set_list l (without_pair d (pairs_in n.lists l)) n.lists) m ≡ list_step m (Del v l d) (f m)
del_list n f l d v same differ m = pairs_in-set l m (without_pair d (pairs_in n.lists l)) n.lists ∙ by_label (l == m) refl
  where
    by_label : (b : Bool) → (l == m) ≡ b → (if b then without_pair d (pairs_in n.lists l) else pairs_in n.lists m) ≡ (if b then without d (f m) else f m)
    by_label true e = ap (without_pair d) (ap (pairs_in n.lists) (eqb-true l m e) ∙ same m) ∙ without_same d (f m) (differ m)
    by_label false e = same m

-- destinations that differ still do after a change
differ_step : (c : Change) (l : ℕ) (xs : List Pair) → are_pairs xs ≡ true → are_pairs (list_step l c xs) ≡ true
differ_step (New v p) l xs differ = refl
differ_step (Set v p) l xs differ = differ
differ_step (Drop v) l xs differ = differ
differ_step (Put v m d p) l xs differ = by_label (m == l)
  where
    by_label : (b : Bool) → are_pairs (if b then record { d = d; p = p } ∷ without d xs else xs) ≡ true
    by_label true = ap (λ ys. are_pairs (record { d = d; p = p } ∷ ys)) (sym (without_same d xs differ)) ∙ are_pairs-put (record { d = d; p = p }) xs differ
    by_label false = differ
differ_step (Del v m d) l xs differ = by_label (m == l)
  where
    by_label : (b : Bool) → are_pairs (if b then without d xs else xs) ≡ true
    by_label true = ap are_pairs (sym (without_same d xs differ)) ∙ are_pairs-without d xs differ
    by_label false = differ

pub agree_step : (c : Change) (n : Option Vertex) (x : Life) (f : ℕ → List Pair) → fits c x ≡ true → Agree n x f → Agree (vertex_after c n) (life_step c x) (λ l. list_step l c (f l))
agree_step (New v p) None x f fit agree = (refl, λ l. refl, λ l. refl)
agree_step (New v p) (Some n) x f fit agree = (refl, λ l. refl, λ l. refl)
agree_step (Set v p) None x f fit agree = absurd (false≢true (sym agree ∙ fit))
agree_step (Set v p) (Some n) x f fit agree = (refl, agree.1, agree.2)
agree_step (Drop v) None x f fit agree = refl
agree_step (Drop v) (Some n) x f fit agree = refl
agree_step (Put v l d p) None x f fit agree = absurd (false≢true (sym agree ∙ fit))
agree_step (Put v l d p) (Some n) x f fit agree = (agree.0, put_list n f l d p v agree.1 agree.2, λ m. differ_step (Put v l d p) m (f m) (agree.2 m))
agree_step (Del v l d) None x f fit agree = absurd (false≢true (sym agree ∙ fit))
agree_step (Del v l d) (Some n) x f fit agree = (agree.0, del_list n f l d v agree.1 agree.2, λ m. differ_step (Del v l d) m (f m) (agree.2 m))

-- The fold over a vertex's changes is what the graph has there: the one lemma that ties the two.
pub agree : (cs : List Change) (n : Option Vertex) (x : Life) (f : ℕ → List Pair) → all_fit cs x ≡ true → Agree n x f → Agree (place_after cs n) (lives cs x) (λ l. lists l cs (f l))
agree [] n x f fit here = here
agree (c ∷ cs) n x f fit here =
    let p = and_parts (fits c x) (all_fit cs (life_step c x)) fit in
    agree cs (vertex_after c n) (life_step c x) (λ l. list_step l c (f l)) p.1 (agree_step c n x f p.0 here)

pairs_differ : (l : ℕ) (lists : List LabelList) → list_all (λ y. nat_lt 0 (length y.pairs) && are_pairs y.pairs) lists ≡ true → are_pairs (pairs_in lists l) ≡ true
pairs_differ l [] all = refl
pairs_differ l (x ∷ lists) all = let rest = pairs_differ l lists in grind (arith, nat_tests)

pub root_agrees : (e : ℕ) (n : Option Vertex) → is_place n ≡ true → Agree n (root_at e n).life (root_at e n).lists
root_agrees e None whole = refl
root_agrees e (Some n) whole =
    let parts = and_parts (rise (map (λ y. y.label) n.lists)) (list_all (λ y. nat_lt 0 (length y.pairs) && are_pairs y.pairs) n.lists) whole in
    (refl, λ l. refl, λ l. pairs_differ l n.lists parts.1)

-- ---- two lists of lists that show the same at each label

abbrev Filled : List LabelList → Type 0
Filled xs = list_all (λ y. has_pairs y.pairs) xs ≡ true

pub none_above : (l : ℕ) (xs : List LabelList) → list_all (nat_lt l) (map (λ y. y.label) xs) ≡ true → pairs_in xs l ≡ []
none_above l [] above = refl
none_above l (x ∷ xs) above = let ih = none_above l xs in grind (arith, nat_tests, ih)

above_lower : (k m : ℕ) (ls : List ℕ) → k < m → list_all (nat_lt m) ls ≡ true → list_all (nat_lt k) ls ≡ true
above_lower k m [] low above = refl
above_lower k m (l ∷ ls) low above = let ih = above_lower k m ls in grind (arith, nat_tests, ih)

filled_not : (pairs : List Pair) → has_pairs pairs ≡ true → pairs ≡ [] → ⊥
filled_not pairs has none = false≢true (sym (ap has_pairs none) ∙ has)

pub first_pairs : (x : LabelList) (xs : List LabelList) → pairs_in (x ∷ xs) x.label ≡ x.pairs
first_pairs x xs = rw (eq-eqb x.label x.label refl) refl

pub later_pairs : (x : LabelList) (xs : List LabelList) (l : ℕ) → l ≢ x.label → pairs_in (x ∷ xs) l ≡ pairs_in xs l
later_pairs x xs l n = rw (ne_eqb x.label l (λ e. n (sym e))) refl

before_not : (x y : LabelList) (xs ys : List LabelList) → rise (map (λ z. z.label) (y ∷ ys)) ≡ true → has_pairs x.pairs ≡ true → pairs_in (x ∷ xs) x.label ≡ pairs_in (y ∷ ys) x.label → x.label < y.label → ⊥
before_not x y xs ys up has same low =
    let parts = and_parts (list_all (nat_lt y.label) (map (λ z. z.label) ys)) (rise (map (λ z. z.label) ys)) up in
    filled_not x.pairs has (sym (first_pairs x xs) ∙ same ∙ later_pairs y ys x.label (λ e. absurd (omega (arith, e, low)))
    ∙ none_above x.label ys (above_lower x.label y.label (map (λ z. z.label) ys) low parts.0))

pub lists_same : (xs ys : List LabelList) → rise (map (λ z. z.label) xs) ≡ true → Filled xs → rise (map (λ z. z.label) ys) ≡ true → Filled ys → ((l : ℕ) → pairs_in xs l ≡ pairs_in ys l) → xs ≡ ys
lists_same [] [] upx fx upy fy same = refl
lists_same [] (y ∷ ys) upx fx upy fy same = absurd (filled_not y.pairs (and_parts (has_pairs y.pairs) (list_all (λ z. has_pairs z.pairs) ys) fy).0 (sym (first_pairs y ys) ∙ sym (same y.label)))
lists_same (x ∷ xs) [] upx fx upy fy same = absurd (filled_not x.pairs (and_parts (has_pairs x.pairs) (list_all (λ z. has_pairs z.pairs) xs) fx).0 (sym (first_pairs x xs) ∙ same x.label))
lists_same (x ∷ xs) (y ∷ ys) upx fx upy fy same = λ i. record { label = label i; pairs = pairs i } ∷ lists_same xs ys ux.1 hx.1 uy.1 hy.1 rest i
  where
    ux : (list_all (nat_lt x.label) (map (λ z. z.label) xs) ≡ true) × (rise (map (λ z. z.label) xs) ≡ true)
    ux = and_parts (list_all (nat_lt x.label) (map (λ z. z.label) xs)) (rise (map (λ z. z.label) xs)) upx

    uy : (list_all (nat_lt y.label) (map (λ z. z.label) ys) ≡ true) × (rise (map (λ z. z.label) ys) ≡ true)
    uy = and_parts (list_all (nat_lt y.label) (map (λ z. z.label) ys)) (rise (map (λ z. z.label) ys)) upy

    hx : (has_pairs x.pairs ≡ true) × (list_all (λ z. has_pairs z.pairs) xs ≡ true)
    hx = and_parts (has_pairs x.pairs) (list_all (λ z. has_pairs z.pairs) xs) fx

    hy : (has_pairs y.pairs ≡ true) × (list_all (λ z. has_pairs z.pairs) ys ≡ true)
    hy = and_parts (has_pairs y.pairs) (list_all (λ z. has_pairs z.pairs) ys) fy

    label : x.label ≡ y.label
    label = ⊎_elim
        (λ (low : x.label < y.label). absurd (before_not x y xs ys upy hx.0 (same x.label) low))
        (λ (le : y.label ≤ x.label). ⊎_elim (λ (low : y.label < x.label). absurd (before_not y x ys xs upx hy.0 (sym (same y.label)) low)) (λ (ge : x.label ≤ y.label). omega arith) (cases_lt y.label x.label))
        (cases_lt x.label y.label)

    pairs : x.pairs ≡ y.pairs
    pairs = sym (first_pairs x xs) ∙ same x.label ∙ ap (pairs_in (y ∷ ys)) label ∙ first_pairs y ys

    rest : (l : ℕ) → pairs_in xs l ≡ pairs_in ys l
    rest l = ⊎_elim
        (λ (e : l ≡ x.label). ap (pairs_in xs) e ∙ none_above x.label xs ux.0 ∙ sym (ap (pairs_in ys) (e ∙ label) ∙ none_above y.label ys uy.0))
        (λ (n : l ≢ x.label). sym (later_pairs x xs l n) ∙ same l ∙ later_pairs y ys l (λ e. n (e ∙ sym label)))
        (cases_eq l x.label)

-- ---- what a row shows as a vertex

above_shown : (k : ℕ) (logs : List LabelLog) (e : ℕ) (who : Reader) → list_all (nat_lt k) (labels_of logs) ≡ true → list_all (nat_lt k) (map (λ z. z.label) (shown_lists logs e who)) ≡ true
above_shown k [] e who above = refl
above_shown k (x ∷ logs) e who above = by_pairs (has_pairs (shown x.log.entries e who)) parts.0 (above_shown k logs e who parts.1)
  where
    parts : (nat_lt k x.label ≡ true) × (list_all (nat_lt k) (labels_of logs) ≡ true)
    parts = and_parts (nat_lt k x.label) (list_all (nat_lt k) (labels_of logs)) above

    by_pairs : (b : Bool) → nat_lt k x.label ≡ true → list_all (nat_lt k) (map (λ z. z.label) (shown_lists logs e who)) ≡ true
        → list_all (nat_lt k) (map (λ z. z.label) (if b then record { label = x.label; pairs = shown x.log.entries e who } ∷ shown_lists logs e who else shown_lists logs e who)) ≡ true
    by_pairs true low ih = rw low ih
    by_pairs false low ih = ih

shown_rise : (logs : List LabelLog) (e : ℕ) (who : Reader) → rise (labels_of logs) ≡ true → rise (map (λ z. z.label) (shown_lists logs e who)) ≡ true
shown_rise [] e who up = refl
shown_rise (x ∷ logs) e who up = by_pairs (has_pairs (shown x.log.entries e who)) (above_shown x.label logs e who parts.0) (shown_rise logs e who parts.1)
  where
    parts : (list_all (nat_lt x.label) (labels_of logs) ≡ true) × (rise (labels_of logs) ≡ true)
    parts = and_parts (list_all (nat_lt x.label) (labels_of logs)) (rise (labels_of logs)) up

    by_pairs : (b : Bool) → list_all (nat_lt x.label) (map (λ z. z.label) (shown_lists logs e who)) ≡ true → rise (map (λ z. z.label) (shown_lists logs e who)) ≡ true
        → rise (map (λ z. z.label) (if b then record { label = x.label; pairs = shown x.log.entries e who } ∷ shown_lists logs e who else shown_lists logs e who)) ≡ true
    by_pairs true above ih = rw above ih
    by_pairs false above ih = ih

shown_filled : (logs : List LabelLog) (e : ℕ) (who : Reader) → Filled (shown_lists logs e who)
shown_filled [] e who = refl
shown_filled (x ∷ logs) e who = by_pairs (has_pairs (shown x.log.entries e who)) refl (shown_filled logs e who)
  where
    by_pairs : (b : Bool) → has_pairs (shown x.log.entries e who) ≡ b → Filled (shown_lists logs e who)
        → Filled (if b then record { label = x.label; pairs = shown x.log.entries e who } ∷ shown_lists logs e who else shown_lists logs e who)
    by_pairs true h ih = rw h ih
    by_pairs false h ih = ih

no_pairs : (pairs : List Pair) → has_pairs pairs ≡ false → pairs ≡ []
no_pairs [] e = refl
no_pairs (x ∷ pairs) e = absurd (true≢false e)

-- the list that is shown at a label
pub shown_at : (logs : List LabelLog) (e : ℕ) (who : Reader) (l : ℕ) → rise (labels_of logs) ≡ true → pairs_in (shown_lists logs e who) l ≡ shown (log_at logs l).entries e who
shown_at [] e who l up = refl
shown_at (x ∷ logs) e who l up = by_pairs (has_pairs (shown x.log.entries e who)) refl (x.label == l) refl (shown_at logs e who l parts.1)
  where
    parts : (list_all (nat_lt x.label) (labels_of logs) ≡ true) × (rise (labels_of logs) ≡ true)
    parts = and_parts (list_all (nat_lt x.label) (labels_of logs)) (rise (labels_of logs)) up

    by_pairs : (b : Bool) → has_pairs (shown x.log.entries e who) ≡ b → (c : Bool) → (x.label == l) ≡ c → pairs_in (shown_lists logs e who) l ≡ shown (log_at logs l).entries e who
        → pairs_in (if b then record { label = x.label; pairs = shown x.log.entries e who } ∷ shown_lists logs e who else shown_lists logs e who) l ≡ shown (if c then x.log else log_at logs l).entries e who
    by_pairs true h true is ih = rw is refl
    by_pairs true h false is ih = rw is ih
    by_pairs false h true is ih = ap (pairs_in (shown_lists logs e who)) (sym (eqb-true x.label l is)) ∙ none_above x.label (shown_lists logs e who) (above_shown x.label logs e who parts.0) ∙ sym (no_pairs (shown x.log.entries e who) h)
    by_pairs false h false is ih = ih

filled_whole : (lists : List LabelList) → list_all (λ y. nat_lt 0 (length y.pairs) && are_pairs y.pairs) lists ≡ true → Filled lists
filled_whole [] all = refl
filled_whole (x ∷ lists) all = by_pairs x.pairs (and_parts (nat_lt 0 (length x.pairs)) (are_pairs x.pairs) parts.0).0 (filled_whole lists parts.1)
  where
    parts : ((nat_lt 0 (length x.pairs) && are_pairs x.pairs) ≡ true) × (list_all (λ y. nat_lt 0 (length y.pairs) && are_pairs y.pairs) lists ≡ true)
    parts = and_parts (nat_lt 0 (length x.pairs) && are_pairs x.pairs) (list_all (λ y. nat_lt 0 (length y.pairs) && are_pairs y.pairs) lists) all

    by_pairs : (pairs : List Pair) → nat_lt 0 (length pairs) ≡ true → Filled lists → (has_pairs pairs && list_all (λ y. has_pairs y.pairs) lists) ≡ true
    by_pairs [] h ih = absurd (false≢true h)
    by_pairs (p ∷ pairs) h ih = ih

gone_vertex : (v : ℕ) (x : Life) (lists : List LabelList) → is_there x ≡ false → living_vertex v x lists ≡ None
gone_vertex v Unborn lists e = refl
gone_vertex v (There p) lists e = absurd (true≢false e)
gone_vertex v Gone lists e = refl

-- A row whose newest version and whose logs agree with a vertex shows it.
pub vertex_shown : (v : ℕ) (n : Option Vertex) (x : Life) (f : ℕ → List Pair) (row : Row) (e : ℕ) (who : Reader) → HasNumber v n → is_place n ≡ true → rise (labels_of row.logs) ≡ true
    → newest row.versions e who ≡ x → ((l : ℕ) → shown (log_at row.logs l).entries e who ≡ f l) → Agree n x f → shown_vertex v row e who ≡ n
vertex_shown v None x f row e who number whole up life list agree = gone_vertex v (newest row.versions e who) (shown_lists row.logs e who) (ap is_there life ∙ agree)
vertex_shown v (Some n) x f row e who number whole up life list agree =
    let parts = and_parts (rise (map (λ y. y.label) n.lists)) (list_all (λ y. nat_lt 0 (length y.pairs) && are_pairs y.pairs) n.lists) whole in
    let same : shown_lists row.logs e who ≡ n.lists = lists_same (shown_lists row.logs e who) n.lists (shown_rise row.logs e who up) (shown_filled row.logs e who) parts.0 (filled_whole n.lists parts.1)
    (λ l. shown_at row.logs e who l up ∙ list l ∙ sym (agree.1 l)) in
    ap (λ (y : Life). living_vertex v y (shown_lists row.logs e who)) (life ∙ agree.0) ∙ (λ i. Some (record { number = sym number i; payload = n.payload; lists = same i }))

-- what stands at a vertex has its number
pub number_at : (v : ℕ) (graph : List Vertex) → HasNumber v (vertex_at v graph)
number_at v [] = tt
number_at v (x ∷ graph) = by_test (x.number == v) refl (number_at v graph)
  where
    by_test : (b : Bool) → (x.number == v) ≡ b → HasNumber v (vertex_at v graph) → HasNumber v (if b then Some x else vertex_at v graph)
    by_test true e ih = eqb-true x.number v e
    by_test false e ih = ih

pub whole_at : (v : ℕ) (graph : List Vertex) → is_graph graph ≡ true → is_place (vertex_at v graph) ≡ true
whole_at v graph whole = vertex_at-whole v graph (and_parts (rise (map (λ x. x.number) graph)) (list_all is_vertex graph) whole).1

-- the changes up to an epoch fit
pub front_fits : (e : ℕ) (past : List Past) (f : ℕ) (row : Row) (base : Rooted) (own : List Change) → RowFits f base past own row → all_fit (until e past) base.life ≡ true
front_fits e past f row base own fit =
    let fr = front e past fit.rising in
    (and_parts (all_fit (until e past) base.life) (all_fit fr.rest (lives (until e past) base.life)) (sym (all_fit-append (until e past) fr.rest base.life) ∙ ap (λ cs. all_fit cs base.life) (sym fr.is) ∙ fit.past_fits)).0

-- A row shows nobody the graph of the records but its owner's.
pub row_shows : (base : Base) (v e : ℕ) (records : List Record) (skip : Option ℕ) (own : List Change) (row : Row) → is_graph base.graph ≡ true → base.epoch ≤ e → RowFits base.epoch (root base v) (past_of records v skip) own row
    → shown_vertex v row e Nobody ≡ vertex_at v (at base.graph (records_but skip records) e)
row_shows base v e records skip own row whole up fit =
    let cs = until e (past_of records v skip) in
    let g = at base.graph (records_but skip records) e in
    let node : place_after cs (vertex_at v base.graph) ≡ vertex_at v g = ap (λ ds. place_after ds (vertex_at v base.graph)) (until_past records v e skip) ∙ sym (vertex_at-after v (changes_until e (records_but skip records)) base.graph) in
    let both : Agree (vertex_at v g) (lives cs (root base v).life) (λ l. lists l cs ((root base v).lists l)) =
    subst (λ (o : Option Vertex). Agree o (lives cs (root base v).life) (λ l. lists l cs ((root base v).lists l))) node
    (agree cs (vertex_at v base.graph) (root base v).life (root base v).lists (front_fits e (past_of records v skip) base.epoch row (root base v) own fit) (root_agrees base.epoch (vertex_at v base.graph) (whole_at v base.graph whole))) in
    vertex_shown v (vertex_at v g) (lives cs (root base v).life) (λ l. lists l cs ((root base v).lists l)) row e Nobody
    (number_at v g) (whole_at v g (is_graph-after (changes_until e (records_but skip records)) base.graph whole)) fit.labels (fit.life.others e up) (λ l. (fit.logs l).others e up) both
