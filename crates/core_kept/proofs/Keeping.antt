-- What every event keeps holds at the opening, and so after any list of events.
use Rattle.std.proofs.Common.{◌≡◌, ℕ, ◌+◌, Bool, true, false, ◌&&◌, List, [], ◌∷◌, refl, sym, ap, ◌∙◌, arith, Option, Some, None}
use Rattle.std.proofs.lemmas.Bool.{and_parts, and_from, leb-true, false≢true}
use Rattle.std.proofs.lemmas.List.Sums.{sum_by-cons}
use Rattle.std.specs.Prelude.{if◌then◌else◌, ◌==◌, nat_lt, nat_le}
use Rattle.std.specs.List.{list_all}
use Rattle.graph_model.specs.declared.graph.Base.{Base}
use Rattle.graph_model.specs.declared.pairs.Pair.{Pair}
use Rattle.graph_model.specs.Vertex.{Vertex, LabelList}
use Rattle.graph_model.specs.Change.{edge_size}
use Rattle.graph_model.specs.Graph.{vertex_at}
use Rattle.graph_model.specs.Records.{IsGood, is_good_vertex, number_end, destination_end, list_size}
use Rattle.stamps.specs.declared.stamp.Stamp.TheVariants.{Never, At}
use Rattle.edge_log.specs.Entries.{sizes}
use Rattle.core_rows.specs.Rows.{log_at}
use Rattle.core_states.specs.declared.event.Act.{Act}
use Rattle.core_states.specs.declared.event.Event.{Event}
use Rattle.core_states.specs.Names.{Name}
use Rattle.core_states.specs.RowEvents.{Limits}
use Rattle.core_states.specs.States.{State, after, after_all, first_name}
use Rattle.core_states.specs.Openings.{opened_entries, opened_log, opened_logs, opened_row, opening, run_limits, IsAllowed, MayOpen}
use Rattle.core_kept.specs.Bounds.{LogBounded, Bounded, Kept}
use Rattle.core_states.specs.LogParts.{Found}
use Rattle.core_kept.proofs.Durable.{opening_durable, step_durable}
use Rattle.core_kept.proofs.Beginning.{none_some}
use Rattle.core_kept.proofs.Openings.{opening_steady}
use Rattle.core_kept.proofs.Drawing.{opened_tids, opened_vertices, tids_drawn, vertices_drawn}
use Rattle.core_kept.proofs.Steps.{step_keeps}
use Rattle.core_kept.proofs.Bounding.{none_bounded, sizes-cons, low_entry, step_bounded}

opened_sizes : (e : ℕ) (xs : List Pair) → sizes (opened_entries e xs) ≡ list_size xs
opened_sizes e [] = refl
opened_sizes e (x ∷ xs) = sizes-cons (record { d = x.d; p = x.p; created = At e; ended = Never }) (opened_entries e xs) ∙ ap (λ n. edge_size x.p + n) (opened_sizes e xs) ∙ sym (sum_by-cons (λ (y : Pair). edge_size y.p) x xs)

opened_low : (e : ℕ) (xs : List Pair) → list_all (λ z. nat_lt z.d destination_end) xs ≡ true → list_all low_entry (opened_entries e xs) ≡ true
opened_low e [] all = refl
opened_low e (x ∷ xs) all = let p = and_parts (nat_lt x.d destination_end) (list_all (λ z. nat_lt z.d destination_end) xs) all in and_from (nat_lt x.d destination_end) (list_all low_entry (opened_entries e xs)) p.0 (opened_low e xs p.1)

opened_bounded : (most e : ℕ) (lists : List LabelList) (l : ℕ) → list_all (λ y. nat_le (list_size y.pairs) most) lists ≡ true → list_all (λ y. list_all (λ z. nat_lt z.d destination_end) y.pairs) lists ≡ true
    → LogBounded most (log_at (opened_logs e lists) l)
opened_bounded most e [] l small low = none_bounded most
opened_bounded most e (x ∷ lists) l small low = by_label (x.label == l) (opened_bounded most e lists l s.1 d.1)
  where
    s : (nat_le (list_size x.pairs) most ≡ true) × (list_all (λ y. nat_le (list_size y.pairs) most) lists ≡ true)
    s = and_parts (nat_le (list_size x.pairs) most) (list_all (λ y. nat_le (list_size y.pairs) most) lists) small

    d : (list_all (λ z. nat_lt z.d destination_end) x.pairs ≡ true) × (list_all (λ y. list_all (λ z. nat_lt z.d destination_end) y.pairs) lists ≡ true)
    d = and_parts (list_all (λ z. nat_lt z.d destination_end) x.pairs) (list_all (λ y. list_all (λ z. nat_lt z.d destination_end) y.pairs) lists) low

    by_label : (b : Bool) → LogBounded most (log_at (opened_logs e lists) l) → LogBounded most (if b then opened_log e x.pairs else log_at (opened_logs e lists) l)
    by_label true ih = record { room = (let q = opened_sizes e x.pairs in let b = leb-true (list_size x.pairs) most s.0 in omega (arith, q, b)); destinations = opened_low e x.pairs d.0 }
    by_label false ih = ih

-- what all vertices of a graph pass, the one of a number passes
pub found_all : (p : Vertex → Bool) (v : ℕ) (graph : List Vertex) (n : Vertex) → list_all p graph ≡ true → vertex_at v graph ≡ Some n → p n ≡ true
found_all p v [] n all found = absurd (none_some n found)
found_all p v (x ∷ graph) n all found = by_test (x.number == v) found (found_all p v graph n q.1)
  where
    q : (p x ≡ true) × (list_all p graph ≡ true)
    q = and_parts (p x) (list_all p graph) all

    some_is : (y : Vertex) → Some x ≡ Some y → x ≡ y
    some_is y e = (cc)

    by_test : (b : Bool) → (if b then Some x else vertex_at v graph) ≡ Some n → (vertex_at v graph ≡ Some n → p n ≡ true) → p n ≡ true
    by_test true f ih = ap p (sym (some_is n f)) ∙ q.0
    by_test false f ih = ih f

row_opened : (base : Base) (most : Limits) → MayOpen base most → (v l : ℕ) (o : Option Vertex) → vertex_at v base.graph ≡ o → LogBounded most.log (log_at (opened_row base.epoch o).logs l)
row_opened base most may v l None is = none_bounded most.log
row_opened base most may v l (Some n) is =
    let small = found_all (λ x. list_all (λ y. nat_le (list_size y.pairs) most.log) x.lists) v base.graph n may.lists is in
    let whole = found_all (is_good_vertex base.next_vertex) v base.graph n may.good.vertices is in
    opened_bounded most.log base.epoch n.lists l small (lasts (nat_lt 0 n.number) (nat_lt n.number base.next_vertex) (list_all (λ y. list_all (λ z. nat_lt z.d destination_end) y.pairs) n.lists) whole)
  where
    lasts : (a b c : Bool) → (a && b && c) ≡ true → c ≡ true
    lasts true true true e = refl
    lasts true true false e = e
    lasts true false c e = absurd (false≢true e)
    lasts false b c e = absurd (false≢true e)

numbers_low : (a b c d : Bool) → (a && b && c && d) ≡ true → (b ≡ true) × (d ≡ true)
numbers_low true true true true e = (refl, refl)
numbers_low true true true false e = absurd (false≢true e)
numbers_low true true false d e = absurd (false≢true e)
numbers_low true false c d e = absurd (false≢true e)
numbers_low false b c d e = absurd (false≢true e)

opening_bounded : (base : Base) (found : Found) (most : Limits) → MayOpen base most → Bounded base most (opening base found)
opening_bounded base found most may =
    let low = numbers_low (nat_lt 0 base.next_tid) (nat_le base.next_tid number_end) (nat_lt 0 base.next_vertex) (nat_le base.next_vertex number_end) may.good.numbers in
    record {
      next_tid = leb-true base.next_tid number_end low.0;
      next_vertex = leb-true base.next_vertex number_end low.1;
      logs = λ v l. row_opened base most may v l (vertex_at v base.graph) refl;
      txns = λ i x is. absurd (none_some x is);
      queue = tt;
      groups = λ i. tt;
      records = tt;
    }

-- The opening state of a good base is kept.
pub opening_kept : (base : Base) (found : Found) (most : Limits) → MayOpen base most → Kept base most (opening base found)
opening_kept base found most may = (opening_steady base found may.good, opening_bounded base found most may, opened_tids base found, opened_vertices base found, opening_durable base found)

-- a run may start from each good base, and its limits are allowed
pub run_may_open : (base : Base) → IsGood base → MayOpen base run_limits
run_may_open base good = record { good = good; lists = good.lists }

pub run_allowed : IsAllowed run_limits
run_allowed = record { txn = omega arith; log = omega arith }

-- Every event of every actor keeps it.
pub step_kept : (base : Base) (most : Limits) (s : State) (i : Name) (action : Act) → Kept base most s → Kept base most (after most s i action)
step_kept base most s i action kept = (step_keeps base most s i action kept.0 kept.4, step_bounded base kept.0.0 most s i action kept.0.1 kept.1, tids_drawn base most s i action kept.2, vertices_drawn base most s i action kept.3, step_durable base kept.0.0 most s i action kept.0.1 kept.4)

-- And so does any list of events.
pub run_kept : (base : Base) (most : Limits) (s : State) (events : List Event) → Kept base most s → Kept base most (after_all most s events)
run_kept base most s [] kept = kept
run_kept base most s (e ∷ events) kept = run_kept base most (after most s (first_name e.actor) e.act) events (step_kept base most s (first_name e.actor) e.act kept)
