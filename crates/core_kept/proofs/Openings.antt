-- The opening state is steady.
use Rattle.std.proofs.Common.{◌≡◌, ℕ, suc, ◌+◌, ◌≤◌, true, List, [], ◌∷◌, length, refl, sym, ap, ◌∙◌, subst, arith, Option, Some, None}
use Rattle.std.proofs.Common.{◌<◌, Bool, false, map, ◌&&◌, ◌||◌}
use Rattle.std.proofs.lemmas.Bool.{le-leb, false≢true, and_parts, ne_eqb}
use Rattle.std.proofs.lemmas.Bool.Decides.{nat_tests}
use Rattle.std.specs.Prelude.{if◌then◌else◌, ◌==◌, nat_lt}
use Rattle.std.specs.List.{list_all}
use Rattle.graph_model.specs.Records.{IsGood, is_good_vertex}
use Rattle.graph_model.specs.Vertex.{Vertex, LabelList}
use Rattle.graph_model.specs.Graph.{vertex_at, pairs_in}
use Rattle.graph_model.specs.Whole.{rise, are_pairs}
use Rattle.graph_model.proofs.Wholes.{is_place}
use Rattle.edge_log.specs.Contents.{empty_content}
use Rattle.core_rows.specs.Rows.{log_at}
use Rattle.core_states.specs.Openings.{opened_logs}
use Rattle.core_states.specs.States.{first_name}
use Rattle.core_kept.specs.Tellings.{Steady}
use Rattle.row_pasts.proofs.LabelLogs.{labels_of}
use Rattle.row_pasts.proofs.LogSteps.{log_none}
use Rattle.core_kept.proofs.Shows.{whole_at}
use Rattle.graph_model.specs.declared.graph.Base.{Base}
use Rattle.graph_model.specs.declared.pairs.Pair.{Pair}
use Rattle.stamps.specs.Stamps.{Nobody}
use Rattle.edge_log.specs.Entries.{shown}
use Rattle.core_kept.specs.Good.{root_at, Nowhere, Ghost, RowOk}
use Rattle.row_pasts.specs.Lives.{lists}
use Rattle.core_states.specs.LogParts.{Found}
use Rattle.core_states.specs.Names.{Name}
use Rattle.core_states.specs.Openings.{opened_entries, opened_log, opened_row, opening}
use Rattle.row_pasts.specs.RowFits.{StampsFit, createds, none_private, pair_sizes, settled_sizes, private_sizes, LogFits, RowFits}
use Rattle.core_states.specs.declared.actor.Actor.{Actor}
use Rattle.core_kept.proofs.Beginning.{none_some}
use Rattle.row_pasts.proofs.LogSteps.{all_settled, none_first}

abbrev has_label : ℕ → List LabelList → Bool
has_label l [] = false
has_label l (x ∷ lists) = x.label == l || has_label l lists

opened_stamps : (e : ℕ) (xs : List Pair) → StampsFit e None (opened_entries e xs)
opened_stamps e [] = tt
opened_stamps e (x ∷ xs) = (omega arith, tt, opened_stamps e xs)

opened_shown : (e f : ℕ) (xs : List Pair) → e ≤ f → shown (opened_entries e xs) f Nobody ≡ xs
opened_shown e f [] le = refl
opened_shown e f (x ∷ xs) le = rw (le-leb e f le) (ap (λ l. x ∷ l) (opened_shown e f xs le))

opened_plain : (e : ℕ) (xs : List Pair) → none_private (createds (opened_entries e xs)) ≡ true
opened_plain e [] = refl
opened_plain e (x ∷ xs) = opened_plain e xs

length-opened : (e : ℕ) (xs : List Pair) → length (createds (opened_entries e xs)) ≡ length xs
length-opened e [] = refl
length-opened e (x ∷ xs) = ap suc (length-opened e xs)

opened_settled : (e : ℕ) (xs : List Pair) → settled_sizes (opened_entries e xs) ≡ pair_sizes xs
opened_settled e [] = refl
opened_settled e (x ∷ xs) = ap (λ n. 28 + length x.p + n) (opened_settled e xs)

opened_private : (e : ℕ) (xs : List Pair) → private_sizes (opened_entries e xs) ≡ 0
opened_private e [] = refl
opened_private e (x ∷ xs) = opened_private e xs

opened_log_fits : (e l : ℕ) (xs : List Pair) → LogFits e e [] None [] xs l (opened_log e xs)
opened_log_fits e l xs = record {
  stamps = opened_stamps e xs;
  plain = λ _. opened_stamps e xs;
  count = sym (all_settled (createds (opened_entries e xs)) (opened_plain e xs) ∙ length-opened e xs);
  order = none_first (createds (opened_entries e xs)) (opened_plain e xs);
  settled_room = (let h = opened_settled e xs in omega (arith, h));
  private_room = (let h = opened_private e xs in omega (arith, h));
  others = λ f le. opened_shown e f xs le;
  mine = λ t is. absurd (none_some t is);
}

empty_log_fits : (f l : ℕ) → LogFits f 0 [] None [] [] l empty_content
empty_log_fits f l = record { stamps = tt; plain = λ _. tt; count = refl; order = refl; settled_room = omega arith; private_room = omega arith; others = λ e le. refl; mine = λ t is. absurd (none_some t is) }

-- the log that stands at a label
opened_at : (e : ℕ) (lists : List LabelList) (l : ℕ) → log_at (opened_logs e lists) l ≡ (if has_label l lists then opened_log e (pairs_in lists l) else empty_content)
opened_at e [] l = refl
opened_at e (x ∷ lists) l = by_label (x.label == l) (opened_at e lists l)
  where
    by_label : (b : Bool) → log_at (opened_logs e lists) l ≡ (if has_label l lists then opened_log e (pairs_in lists l) else empty_content)
        → (if b then opened_log e x.pairs else log_at (opened_logs e lists) l) ≡ (if b || has_label l lists then opened_log e (if b then x.pairs else pairs_in lists l) else empty_content)
    by_label true ih = refl
    by_label false ih = ih

no_label : (l : ℕ) (lists : List LabelList) → has_label l lists ≡ false → pairs_in lists l ≡ []
no_label l [] none = refl
no_label l (x ∷ lists) none = let ih = no_label l lists in grind (arith, nat_tests, ih)

opened_logs_fit : (e : ℕ) (lists : List LabelList) (l : ℕ) → LogFits e e [] None [] (pairs_in lists l) l (log_at (opened_logs e lists) l)
opened_logs_fit e lists l = subst (LogFits e e [] None [] (pairs_in lists l) l) (sym (opened_at e lists l)) (by_label (has_label l lists) refl)
  where
    by_label : (b : Bool) → has_label l lists ≡ b → LogFits e e [] None [] (pairs_in lists l) l (if b then opened_log e (pairs_in lists l) else empty_content)
    by_label true h = opened_log_fits e l (pairs_in lists l)
    by_label false h = rw (no_label l lists h) (log_none e e [] None [] [] l e (opened_log_fits e l []))

labels-opened : (e : ℕ) (lists : List LabelList) → labels_of (opened_logs e lists) ≡ map (λ y. y.label) lists
labels-opened e [] = refl
labels-opened e (x ∷ lists) = ap (λ ls. x.label ∷ ls) (labels-opened e lists)

opened_row_ok : (base : Base) (g : Ghost) (actor : Name → Actor) (v : ℕ) (n : Option Vertex) → is_place n ≡ true → RowFits base.epoch (root_at base.epoch n) [] [] (opened_row base.epoch n)
opened_row_ok base g actor v None whole = record {
  life = record { stamps = tt; plain = λ _. tt; others = λ e le. refl; mine = λ t is. absurd (none_some t is) };
  logs = λ l. empty_log_fits base.epoch l;
  labels = refl;
  past_low = tt;
  rising = tt;
  committed = refl;
  past_fits = refl;
  own_fits = refl;
}
opened_row_ok base g actor v (Some n) whole = record {
  life = record {
    stamps = (omega arith, tt);
    plain = λ _. (omega arith, tt);
    others = λ e le. rw (le-leb base.epoch e le) refl;
    mine = λ t is. absurd (none_some t is);
  };
  logs = opened_logs_fit base.epoch n.lists;
  labels = ap rise (labels-opened base.epoch n.lists) ∙ (and_parts (rise (map (λ y. y.label) n.lists)) (list_all (λ y. nat_lt 0 (length y.pairs) && are_pairs y.pairs) n.lists) whole).0;
  past_low = tt;
  rising = tt;
  committed = refl;
  past_fits = refl;
  own_fits = refl;
}

-- no vertex of a good base has a number from the next one on
none_late : (next v : ℕ) (graph : List Vertex) → list_all (is_good_vertex next) graph ≡ true → next ≤ v → vertex_at v graph ≡ None
none_late next v [] all up = refl
none_late next v (x ∷ graph) all up =
    let ih = none_late next v graph in
    let parts = and_parts (is_good_vertex next x) (list_all (is_good_vertex next) graph) all in
    let low = lower parts.0 in
    rw (ne_eqb x.number v (λ e. omega (arith, e, low))) (ih parts.1 up)
  where
    lower : is_good_vertex next x ≡ true → x.number < next
    lower good = grind (arith, nat_tests)

pub opening_steady : (base : Base) (found : Found) → IsGood base → Steady base (opening base found)
opening_steady base found good = (
  g,
  record {
    low = omega arith;
    visible = omega arith;
    next_tid = omega arith;
    next_vertex = omega arith;
    pending = tt;
    records = tt;
    recorded = λ t. refl;
    outcomes = λ t. refl;
    nowhere = λ t up. refl;
    before = λ t lt. refl;
    queue = tt;
    groups = λ i. tt;
    txns = λ i x is. absurd (none_some x is);
    drawn = λ i x is. absurd (none_some x is);
    undrawn = λ v up. ap (opened_row base.epoch) (none_late base.next_vertex v base.graph good.vertices up);
    held = λ i x is. absurd (none_some x is);
    rows = λ v. row_ok v (vertex_at v base.graph) refl;
    active = λ t e has. absurd (false≢true has);
    learnt = λ i. record { visible = omega arith; reads = λ t e has. absurd (false≢true has); next = omega arith; tids = λ t e has. absurd (false≢true has) };
    short = λ i. omega arith;
    lawful = record { groups = []; are = refl; grouped = tt; last_is = omega arith; apart = λ r s in_r. absurd in_r };
  },
  λ i. (tt, tt),
)
  where
    g : Ghost
    g = record { who = λ t. first_name 0; drawer = λ v. first_name 0; place = λ t. Nowhere }

    row_ok : (v : ℕ) (n : Option Vertex) → vertex_at v base.graph ≡ n → RowOk base g [] (opening base found).actor v (opened_row base.epoch (vertex_at v base.graph))
    row_ok v n is = subst (λ (m : Option Vertex). RowOk base g [] (opening base found).actor v (opened_row base.epoch m)) (sym is) (by_node n is (ap is_place (sym is) ∙ whole_at v base.graph good.graph))
      where
        by_node : (n : Option Vertex) → vertex_at v base.graph ≡ n → is_place n ≡ true → RowOk base g [] (opening base found).actor v (opened_row base.epoch n)
        by_node None is whole = rw is (opened_row_ok base g (opening base found).actor v None whole)
        by_node (Some m) is whole = rw is (opened_row_ok base g (opening base found).actor v (Some m) whole)
