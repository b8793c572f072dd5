-- The records continue the base by every rule of a list of records.
use Rattle.std.proofs.Common.{◌≡◌, ◌≢◌, ℕ, ◌<◌, ◌≤◌, Bool, true, false, not, ◌&&◌, ◌||◌, List, [], ◌∷◌, ◌++◌, length, map, refl, sym, ap, ◌∙◌, subst, arith, Option, Some, None, ⊎_elim, ◌⊎◌, inl, inr, append-nil}
use Rattle.std.proofs.lemmas.Bool.{cases_eq, cases_lt, eq-eqb, eqb-true, eqb-false, ne_eqb, and_parts, and_from, or_parts, or_cases, false≢true, le-leb, leb-true, ltb-true}
use Rattle.std.proofs.lemmas.List.Sums.{sum_by-cons}
use Rattle.std.specs.Prelude.{if◌then◌else◌, ◌==◌, nat_le, nat_lt}
use Rattle.std.specs.List.{list_any, list_all}
use Rattle.graph_model.specs.declared.change.Change.{Change}
use Rattle.graph_model.specs.declared.change.Change.TheVariants.{New, Set, Drop, Put, Del}
use Rattle.graph_model.specs.declared.graph.Base.{Base}
use Rattle.graph_model.specs.declared.pairs.Pair.{Pair}
use Rattle.graph_model.specs.declared.record.Record.{Record}
use Rattle.graph_model.specs.Vertex.{Vertex, LabelList}
use Rattle.graph_model.specs.Change.{vertex_of, edge_size}
use Rattle.graph_model.specs.Whole.{rise, are_pairs, is_vertex, is_graph, all_differ}
use Rattle.graph_model.specs.Graph.{vertex_at, pairs_in, at, changes_until}
use Rattle.graph_model.specs.Places.{changes_about, place_after}
use Rattle.graph_model.specs.Records.{list_most, all_changes, changes_vertex, overlap, share_vertex, keep_apart, apart, made_vertices, list_size, lists_fit, Continues, IsGood, begins_after}
use Rattle.graph_model.proofs.Places.{vertex_at-after}
use Rattle.graph_model.proofs.Wholes.{is_place, is_graph-after}
use Rattle.edge_log.specs.Entries.{Entry, visible, shown, sizes, pair_of}
use Rattle.stamps.specs.Stamps.{Reader, Nobody, Txn}
use Rattle.core_rows.specs.Rows.{Life, Unborn, There, Gone, log_at}
use Rattle.core_states.specs.Names.{set_at}
use Rattle.core_states.specs.Numbers.{has_record}
use Rattle.core_states.specs.States.{State}
use Rattle.row_pasts.specs.Lives.{life_step, lives, lists, fits, all_fit, until, changes_of, Past}
use Rattle.core_states.specs.Openings.{run_limits}
use Rattle.core_kept.specs.Good.{Ghost, Good, Place, Nowhere, InQueue, InGroup, InLog, InFault, published, RowOkBy, RecordsOk, In, Apart, past_of, part_of, root}
use Rattle.core_kept.specs.Bounds.{Bounded}
use Rattle.row_pasts.proofs.Pasts.{lists-append, until_late, until-append, until_stamped_late, until_stamped_early, all_fit-append}
use Rattle.core_states.proofs.Names.{set_at_here, set_at_there}
use Rattle.core_kept.proofs.Beginning.{none_some}
use Rattle.core_kept.proofs.Snapshots.{but_none}
use Rattle.core_kept.proofs.Shows.{first_pairs, later_pairs, none_above, Agree, agree, root_agrees, front_fits, until_past, whole_at}
use Rattle.core_kept.proofs.OnRows.{is_born}
use Rattle.core_laws.proofs.Counts.{last_below}
use Rattle.core_kept.proofs.Bounding.{sizes-cons}
use Rattle.core_laws.proofs.Histories.{begins_groups, group_test, each_from, epoch_low, records_test, tids_differ, records_made, vertex_fits, every_change_fits}

-- ---- a vertex is made once

none_made : (v : ℕ) (cs : List Change) (x : Life) → is_born x ≡ true → all_fit (changes_about v cs) x ≡ true → list_any (λ y. y == v) (made_vertices cs) ≡ false
none_made v [] x born fit = refl
none_made v (New u p ∷ cs) x born fit = by_vertex (u == v) refl fit (none_made v cs x born)
  where
    unborn : (y : Life) → is_born y ≡ true → fits (New u p) y ≡ true → ⊥
    unborn Unborn b f = false≢true b
    unborn (There q) b f = false≢true f
    unborn Gone b f = false≢true f

    by_vertex : (b : Bool) → (u == v) ≡ b → all_fit (if b then New u p ∷ changes_about v cs else changes_about v cs) x ≡ true → (all_fit (changes_about v cs) x ≡ true → list_any (λ y. y == v) (made_vertices cs) ≡ false)
        → (b || list_any (λ y. y == v) (made_vertices cs)) ≡ false
    by_vertex true e f ih = absurd (unborn x born (and_parts (fits (New u p) x) (all_fit (changes_about v cs) (There p)) f).0)
    by_vertex false e f ih = ih f
none_made v (Set u p ∷ cs) x born fit = by_vertex (u == v) fit (none_made v cs x born) (none_made v cs (There p) refl)
  where
    by_vertex : (b : Bool) → all_fit (if b then Set u p ∷ changes_about v cs else changes_about v cs) x ≡ true → (all_fit (changes_about v cs) x ≡ true → list_any (λ y. y == v) (made_vertices cs) ≡ false)
        → (all_fit (changes_about v cs) (There p) ≡ true → list_any (λ y. y == v) (made_vertices cs) ≡ false) → list_any (λ y. y == v) (made_vertices cs) ≡ false
    by_vertex true f ih jh = jh (and_parts (fits (Set u p) x) (all_fit (changes_about v cs) (There p)) f).1
    by_vertex false f ih jh = ih f
none_made v (Drop u ∷ cs) x born fit = by_vertex (u == v) fit (none_made v cs x born) (none_made v cs Gone refl)
  where
    by_vertex : (b : Bool) → all_fit (if b then Drop u ∷ changes_about v cs else changes_about v cs) x ≡ true → (all_fit (changes_about v cs) x ≡ true → list_any (λ y. y == v) (made_vertices cs) ≡ false)
        → (all_fit (changes_about v cs) Gone ≡ true → list_any (λ y. y == v) (made_vertices cs) ≡ false) → list_any (λ y. y == v) (made_vertices cs) ≡ false
    by_vertex true f ih jh = jh (and_parts (fits (Drop u) x) (all_fit (changes_about v cs) Gone) f).1
    by_vertex false f ih jh = ih f
none_made v (Put u l d p ∷ cs) x born fit = by_vertex (u == v) fit (none_made v cs x born)
  where
    by_vertex : (b : Bool) → all_fit (if b then Put u l d p ∷ changes_about v cs else changes_about v cs) x ≡ true → (all_fit (changes_about v cs) x ≡ true → list_any (λ y. y == v) (made_vertices cs) ≡ false) → list_any (λ y. y == v) (made_vertices cs) ≡ false
    by_vertex true f ih = ih (and_parts (fits (Put u l d p) x) (all_fit (changes_about v cs) x) f).1
    by_vertex false f ih = ih f
none_made v (Del u l d ∷ cs) x born fit = by_vertex (u == v) fit (none_made v cs x born)
  where
    by_vertex : (b : Bool) → all_fit (if b then Del u l d ∷ changes_about v cs else changes_about v cs) x ≡ true → (all_fit (changes_about v cs) x ≡ true → list_any (λ y. y == v) (made_vertices cs) ≡ false) → list_any (λ y. y == v) (made_vertices cs) ≡ false
    by_vertex true f ih = ih (and_parts (fits (Del u l d) x) (all_fit (changes_about v cs) x) f).1
    by_vertex false f ih = ih f

-- what fits at each vertex, fits after the first change
fits_rest : (c : Change) (cs : List Change) (life : ℕ → Life) → ((v : ℕ) → all_fit (changes_about v (c ∷ cs)) (life v) ≡ true) → (v : ℕ) → all_fit (changes_about v cs) (set_at life (vertex_of c) (life_step c (life (vertex_of c))) v) ≡ true
fits_rest c cs life fit v = ⊎_elim
    (λ (e : v ≡ w). ap (all_fit (changes_about v cs)) (set_at_here life w (life_step c (life w)) v e) ∙ ap (λ u. all_fit (changes_about u cs) (life_step c (life w))) e ∙ (and_parts (fits c (life w)) (all_fit (changes_about w cs) (life_step c (life w))) (rw (eq-eqb w w refl) at (fit w))).1)
    (λ (n : v ≢ w). ap (all_fit (changes_about v cs)) (set_at_there life w (life_step c (life w)) v n) ∙ (rw (ne_eqb w v (λ e. n (sym e))) at (fit v)))
    (cases_eq v w)
  where
    w : ℕ
    w = vertex_of c

made_differ : (cs : List Change) (life : ℕ → Life) → ((v : ℕ) → all_fit (changes_about v cs) (life v) ≡ true) → all_differ (made_vertices cs) ≡ true
made_differ [] life fit = refl
made_differ (New v p ∷ cs) life fit =
    let rest = fits_rest (New v p) cs life fit in
    let later : all_fit (changes_about v cs) (There p) ≡ true = ap (all_fit (changes_about v cs)) (sym (set_at_here life v (There p) v refl)) ∙ rest v in
    and_from (not (list_any (λ y. y == v) (made_vertices cs))) (all_differ (made_vertices cs)) (ap not (none_made v cs (There p) refl later)) (made_differ cs (set_at life v (There p)) rest)
made_differ (Set v p ∷ cs) life fit = made_differ cs (set_at life v (There p)) (fits_rest (Set v p) cs life fit)
made_differ (Drop v ∷ cs) life fit = made_differ cs (set_at life v Gone) (fits_rest (Drop v) cs life fit)
made_differ (Put v l d p ∷ cs) life fit = made_differ cs (set_at life v (life v)) (fits_rest (Put v l d p) cs life fit)
made_differ (Del v l d ∷ cs) life fit = made_differ cs (set_at life v (life v)) (fits_rest (Del v l d) cs life fit)

-- ---- of two records that overlap, no vertex is changed by both

pub changes_some : (v : ℕ) (cs : List Change) → list_any (λ c. vertex_of c == v) cs ≡ true → changes_about v cs ≢ []
changes_some v [] has = absurd (false≢true has)
changes_some v (c ∷ cs) has = by_vertex (vertex_of c == v) has (changes_some v cs)
  where
    by_vertex : (b : Bool) → (b || list_any (λ c. vertex_of c == v) cs) ≡ true → (list_any (λ c. vertex_of c == v) cs ≡ true → changes_about v cs ≢ []) → (if b then c ∷ changes_about v cs else changes_about v cs) ≢ []
    by_vertex true h ih = λ e. (cc)
    by_vertex false h ih = ih h

pub changes_has : (v : ℕ) (cs : List Change) → changes_about v cs ≢ [] → list_any (λ c. vertex_of c == v) cs ≡ true
changes_has v [] some = absurd (some refl)
changes_has v (c ∷ cs) some = by_vertex (vertex_of c == v) some (changes_has v cs)
  where
    by_vertex : (b : Bool) → (if b then c ∷ changes_about v cs else changes_about v cs) ≢ [] → (changes_about v cs ≢ [] → list_any (λ c. vertex_of c == v) cs ≡ true) → (b || list_any (λ c. vertex_of c == v) cs) ≡ true
    by_vertex true h ih = refl
    by_vertex false h ih = ih h

shared : (cs : List Change) (s : Record) → list_any (λ c. changes_vertex (vertex_of c) s) cs ≡ true → (v : ℕ) × (changes_about v cs ≢ []) × (changes_about v s.changes ≢ [])
shared [] s has = absurd (false≢true has)
shared (c ∷ cs) s has = by_first (changes_vertex (vertex_of c) s) refl has (shared cs s)
  where
    more : (v : ℕ) → changes_about v cs ≢ [] → changes_about v (c ∷ cs) ≢ []
    more v some = by_vertex (vertex_of c == v)
      where
        by_vertex : (b : Bool) → (if b then c ∷ changes_about v cs else changes_about v cs) ≢ []
        by_vertex true = λ e. (cc)
        by_vertex false = some

    first : changes_about (vertex_of c) (c ∷ cs) ≢ []
    first = rw (eq-eqb (vertex_of c) (vertex_of c) refl) (λ e. (cc))

    by_first : (b : Bool) → changes_vertex (vertex_of c) s ≡ b → (b || list_any (λ d. changes_vertex (vertex_of d) s) cs) ≡ true → (list_any (λ d. changes_vertex (vertex_of d) s) cs ≡ true → (v : ℕ) × (changes_about v cs ≢ []) × (changes_about v s.changes ≢ []))
        → (v : ℕ) × (changes_about v (c ∷ cs) ≢ []) × (changes_about v s.changes ≢ [])
    by_first true e h ih = (vertex_of c, first, changes_some (vertex_of c) s.changes e)
    by_first false e h ih = let t = ih h in (t.0, more t.0 t.1, t.2)

-- two records that do not clash are kept apart
keeps_apart : (r s : Record) → (r.read < s.epoch → s.epoch ≤ r.epoch → (v : ℕ) → (changes_about v r.changes ≡ []) ⊎ (changes_about v s.changes ≡ []))
    → (s.read < r.epoch → r.epoch ≤ s.epoch → (v : ℕ) → (changes_about v r.changes ≡ []) ⊎ (changes_about v s.changes ≡ [])) → keep_apart r s ≡ true
keeps_apart r s one two = by_both ((overlap r s || overlap s r) && share_vertex r s) refl
  where
    none : ((v : ℕ) → (changes_about v r.changes ≡ []) ⊎ (changes_about v s.changes ≡ [])) → share_vertex r s ≡ true → ⊥
    none free share = let t = shared r.changes s share in ⊎_elim (λ (e : changes_about t.0 r.changes ≡ []). t.1 e) (λ (e : changes_about t.0 s.changes ≡ []). t.2 e) (free t.0)

    clash : ((overlap r s || overlap s r) && share_vertex r s) ≡ true → ⊥
    clash h =
        let p = and_parts (overlap r s || overlap s r) (share_vertex r s) h in
        ⊎_elim
        (λ (o : overlap r s ≡ true). let q = and_parts (nat_lt r.read s.epoch) (nat_le s.epoch r.epoch) o in none (one (ltb-true r.read s.epoch q.0) (leb-true s.epoch r.epoch q.1)) p.1)
        (λ (o : overlap s r ≡ true). let q = and_parts (nat_lt s.read r.epoch) (nat_le r.epoch s.epoch) o in none (two (ltb-true s.read r.epoch q.0) (leb-true r.epoch s.epoch q.1)) p.1)
        (or_cases (overlap r s) (overlap s r) p.0)

    by_both : (b : Bool) → ((overlap r s || overlap s r) && share_vertex r s) ≡ b → not b ≡ true
    by_both true h = absurd (clash h)
    by_both false h = refl

other_tid : (t : ℕ) (rs : List Record) (s : Record) → has_record t rs ≡ false → In s rs → s.tid ≢ t
other_tid t [] s none m = absurd m
other_tid t (x ∷ rs) s none (inl is) = λ e. eqb-false x.tid t (or_parts (x.tid == t) (has_record t rs) none).0 (ap (λ (y : Record). y.tid) (sym is) ∙ e)
other_tid t (x ∷ rs) s none (inr m) = other_tid t rs s (or_parts (x.tid == t) (has_record t rs) none).1 m

apart_records : (base : Base) (g : Ghost) (next : ℕ) (rs : List Record) → RecordsOk base g next rs → Apart rs → apart rs ≡ true
apart_records base g next [] ok free = refl
apart_records base g next (r ∷ rs) ok free =
    and_from (list_all (keep_apart r) rs) (apart rs) (each rs (λ s m. m)) (apart_records base g next rs ok.6 (λ a b ma mb. free a b (inr ma) (inr mb)))
  where
    swap : (s : Record) (v : ℕ) → (changes_about v s.changes ≡ []) ⊎ (changes_about v r.changes ≡ []) → (changes_about v r.changes ≡ []) ⊎ (changes_about v s.changes ≡ [])
    swap s v (inl e) = inr e
    swap s v (inr e) = inl e

    one : (s : Record) → In s rs → keep_apart r s ≡ true
    one s m =
        let other = other_tid r.tid rs s ok.5 m in
        keeps_apart r s (λ a b. free r s (inl refl) (inr m) (λ e. other (sym e)) a b) (λ a b v. swap s v (free s r (inr m) (inl refl) other a b v))

    each : (us : List Record) → ((s : Record) → In s us → In s rs) → list_all (keep_apart r) us ≡ true
    each [] sub = refl
    each (s ∷ us) sub = and_from (keep_apart r s) (list_all (keep_apart r) us) (one s (sub s (inl refl))) (each us (λ t m. sub t (inr m)))

-- ---- no list is above its limit

shown_small : (xs : List Entry) (e : ℕ) (who : Reader) → list_size (shown xs e who) ≤ sizes xs
shown_small [] e who = omega arith
shown_small (x ∷ xs) e who = by_test (visible x e who) (shown_small xs e who)
  where
    by_test : (b : Bool) → list_size (shown xs e who) ≤ sizes xs → list_size (if b then pair_of x ∷ shown xs e who else shown xs e who) ≤ sizes (x ∷ xs)
    by_test true ih = let a = sizes-cons x xs in let b = sum_by-cons (λ (y : Pair). edge_size y.p) (pair_of x) (shown xs e who) in omega (arith, ih, a, b)
    by_test false ih = let a = sizes-cons x xs in omega (arith, ih, a)

-- What the records make of a vertex up to an epoch: its changes fit, and its lists have room in its logs.
record AtEpoch (base : Base) (s : State) (v e : ℕ) : Type 0 where
  fit : all_fit (until e (past_of s.clock.records v None)) (root base v).life ≡ true
  room : (l : ℕ) → list_size (lists l (until e (past_of s.clock.records v None)) ((root base v).lists l)) ≤ sizes (log_at (s.row v).logs l).entries

at_epoch : (base : Base) (g : Ghost) (s : State) (v e : ℕ) → Good base g s → base.epoch ≤ e → AtEpoch base s v e
at_epoch base g s v e good up = by_owner (s.row v).owner refl (good.rows v)
  where
    by_owner : (o : Option ℕ) → (s.row v).owner ≡ o → RowOkBy o base g s.clock.records s.actor v (s.row v) → AtEpoch base s v e
    by_owner None owner ok = record {
      fit = front_fits e (past_of s.clock.records v None) base.epoch (s.row v) (root base v) [] ok;
      room = λ l. let q = (ok.logs l).others e up in let b = shown_small (log_at (s.row v).logs l).entries e Nobody in let z = ap list_size q in omega (arith, z, b);
    }
    by_owner (Some t) owner ok = by_place (g.place ok.txn.tid) refl
      where
        past : List Past
        past = past_of s.clock.records v (Some t)

        own : List Change
        own = changes_about v ok.txn.own

        part : part_of s.clock.records v t ≡ published (g.place ok.txn.tid) own
        part = ap (part_of s.clock.records v) (sym ok.tid) ∙ (good.txns (g.who t) ok.txn ok.is).record_is v

        whole : (p : Place) → g.place ok.txn.tid ≡ p → until e (past_of s.clock.records v None) ≡ until e past ++ until e (published p own)
        whole p is = ap (until e) ok.last ∙ until-append e past (part_of s.clock.records v t) ∙ ap (λ l. until e past ++ until e l) (part ∙ ap (λ q. published q own) is)

        early : until e (past_of s.clock.records v None) ≡ until e past → AtEpoch base s v e
        early same = record {
          fit = ap (λ cs. all_fit cs (root base v).life) same ∙ front_fits e past base.epoch (s.row v) (root base v) own ok.fits;
          room = λ l. let q = (ok.fits.logs l).others e up in let b = shown_small (log_at (s.row v).logs l).entries e Nobody in let z = ap list_size q in let y = ap (λ cs. list_size (lists l cs ((root base v).lists l))) same in omega (arith, y, z, b);
        }

        late : (h : ℕ) → g.place ok.txn.tid ≡ InLog h → h ≤ e → until e (past_of s.clock.records v None) ≡ until e past ++ own → AtEpoch base s v e
        late h is le same =
            let after = (good.txns (g.who t) ok.txn ok.is).later h is in
            let low = ok.read in
            let all : until e past ≡ changes_of past = until_late (s.row v).committed e past ok.fits.past_low (omega arith) in
            let both : until e (past_of s.clock.records v None) ≡ changes_of past ++ own = same ∙ ap (λ l. l ++ own) all in
            record {
              fit = ap (λ cs. all_fit cs (root base v).life) both ∙ all_fit-append (changes_of past) own (root base v).life ∙ and_from (all_fit (changes_of past) (root base v).life) (all_fit own (lives (changes_of past) (root base v).life)) ok.fits.past_fits ok.fits.own_fits;
              room = λ l. let q = (ok.fits.logs l).mine t owner e (omega arith) in let b = shown_small (log_at (s.row v).logs l).entries e (Txn t) in let z = ap list_size q in
                  let y = ap list_size (ap (λ cs. lists l cs ((root base v).lists l)) both ∙ lists-append l (changes_of past) own ((root base v).lists l)) in omega (arith, y, z, b);
            }

        by_place : (p : Place) → g.place ok.txn.tid ≡ p → AtEpoch base s v e
        by_place Nowhere is = early (whole Nowhere is ∙ append-nil (until e past))
        by_place InQueue is = early (whole InQueue is ∙ append-nil (until e past))
        by_place (InGroup i) is = early (whole (InGroup i) is ∙ append-nil (until e past))
        by_place (InFault b a) is = early (whole (InFault b a) is ∙ append-nil (until e past))
        by_place (InLog h) is = ⊎_elim
            (λ (lt : e < h). early (whole (InLog h) is ∙ ap (λ l. until e past ++ l) (until_stamped_early h e own lt) ∙ append-nil (until e past)))
            (λ (le : h ≤ e). late h is le (whole (InLog h) is ∙ ap (λ l. until e past ++ l) (until_stamped_late h e own le)))
            (cases_lt e h)

-- a record is of an epoch above the base's
record_late : (base : Base) (g : Ghost) (next : ℕ) (r : Record) (rs : List Record) → RecordsOk base g next rs → In r rs → base.epoch ≤ r.epoch
record_late base g next r [] ok m = absurd m
record_late base g next r (x ∷ rs) ok (inl is) = let a = ok.3 in let b = ok.4 in let q = ap (λ (y : Record). y.epoch) is in omega (arith, a, b, q)
record_late base g next r (x ∷ rs) ok (inr m) = record_late base g next r rs ok.6 m

-- what holds of the vertex of each number holds of all vertices
all_by_number : (p : Vertex → Bool) (graph : List Vertex) → rise (map (λ x. x.number) graph) ≡ true → ((v : ℕ) (n : Vertex) → vertex_at v graph ≡ Some n → p n ≡ true) → list_all p graph ≡ true
all_by_number p [] up each = refl
all_by_number p (x ∷ graph) up each =
    and_from (p x) (list_all p graph) (each x.number x (rw (eq-eqb x.number x.number refl) refl)) (all_by_number p graph parts.1 (λ v n found. each v n (later v n found)))
  where
    parts : (list_all (nat_lt x.number) (map (λ y. y.number) graph) ≡ true) × (rise (map (λ y. y.number) graph) ≡ true)
    parts = and_parts (list_all (nat_lt x.number) (map (λ y. y.number) graph)) (rise (map (λ y. y.number) graph)) up

    above : (v : ℕ) (n : Vertex) (g : List Vertex) → list_all (nat_lt x.number) (map (λ y. y.number) g) ≡ true → vertex_at v g ≡ Some n → x.number ≢ v
    above v n [] all found = absurd (none_some n found)
    above v n (y ∷ g) all found = by_test (y.number == v) refl (and_parts (nat_lt x.number y.number) (list_all (nat_lt x.number) (map (λ z. z.number) g)) all) found (above v n g)
      where
        by_test : (b : Bool) → (y.number == v) ≡ b → (nat_lt x.number y.number ≡ true) × (list_all (nat_lt x.number) (map (λ z. z.number) g) ≡ true) → (if b then Some y else vertex_at v g) ≡ Some n
            → (list_all (nat_lt x.number) (map (λ z. z.number) g) ≡ true → vertex_at v g ≡ Some n → x.number ≢ v) → x.number ≢ v
        by_test true e low f ih = let a = ltb-true x.number y.number low.0 in let b = eqb-true y.number v e in λ q. absurd (omega (arith, a, b, q))
        by_test false e low f ih = ih low.1 f

    later : (v : ℕ) (n : Vertex) → vertex_at v graph ≡ Some n → vertex_at v (x ∷ graph) ≡ Some n
    later v n found = rw (ne_eqb x.number v (above v n graph parts.0 found)) found

-- and what holds of the list at each label holds of all lists
all_by_label : (lists : List LabelList) → rise (map (λ y. y.label) lists) ≡ true → ((l : ℕ) → list_size (pairs_in lists l) ≤ list_most) → list_all (λ y. nat_le (list_size y.pairs) list_most) lists ≡ true
all_by_label [] up each = refl
all_by_label (x ∷ lists) up each =
    and_from (nat_le (list_size x.pairs) list_most) (list_all (λ y. nat_le (list_size y.pairs) list_most) lists)
    (le-leb (list_size x.pairs) list_most (subst (λ (ps : List Pair). list_size ps ≤ list_most) (first_pairs x lists) (each x.label)))
    (all_by_label lists parts.1 later)
  where
    parts : (list_all (nat_lt x.label) (map (λ y. y.label) lists) ≡ true) × (rise (map (λ y. y.label) lists) ≡ true)
    parts = and_parts (list_all (nat_lt x.label) (map (λ y. y.label) lists)) (rise (map (λ y. y.label) lists)) up

    later : (l : ℕ) → list_size (pairs_in lists l) ≤ list_most
    later l = ⊎_elim
        (λ (e : l ≡ x.label). let none = ap list_size (ap (pairs_in lists) e ∙ none_above x.label lists parts.0) in omega (arith, none))
        (λ (n : l ≢ x.label). subst (λ (ps : List Pair). list_size ps ≤ list_most) (later_pairs x lists l n) (each l))
        (cases_eq l x.label)

-- The graph at an epoch is what its changes make of each vertex.
graph_agrees : (base : Base) (s : State) (v e : ℕ) → is_graph base.graph ≡ true → AtEpoch base s v e
    → Agree (vertex_at v (at base.graph s.clock.records e)) (lives (until e (past_of s.clock.records v None)) (root base v).life) (λ l. lists l (until e (past_of s.clock.records v None)) ((root base v).lists l))
graph_agrees base s v e whole at_e =
    let cs = until e (past_of s.clock.records v None) in
    let changed : cs ≡ changes_about v (changes_until e s.clock.records) = until_past s.clock.records v e None ∙ ap (λ rs. changes_about v (changes_until e rs)) (but_none s.clock.records) in
    let node : place_after cs (vertex_at v base.graph) ≡ vertex_at v (at base.graph s.clock.records e) = ap (λ ds. place_after ds (vertex_at v base.graph)) changed ∙ sym (vertex_at-after v (changes_until e s.clock.records) base.graph) in
    subst (λ (o : Option Vertex). Agree o (lives cs (root base v).life) (λ l. lists l cs ((root base v).lists l))) node
    (agree cs (vertex_at v base.graph) (root base v).life (root base v).lists at_e.fit (root_agrees base.epoch (vertex_at v base.graph) (whole_at v base.graph whole)))

lists_at : (base : Base) (g : Ghost) (s : State) (e : ℕ) → is_graph base.graph ≡ true → Good base g s → Bounded base run_limits s → base.epoch ≤ e → lists_fit (at base.graph s.clock.records e) ≡ true
lists_at base g s e whole good bounded up =
    let graph = at base.graph s.clock.records e in
    let is_whole : is_graph graph ≡ true = is_graph-after (changes_until e s.clock.records) base.graph whole in
    all_by_number (λ x. list_all (λ y. nat_le (list_size y.pairs) list_most) x.lists) graph (and_parts (rise (map (λ x. x.number) graph)) (list_all is_vertex graph) is_whole).0
    (λ v n found.
    let at_e = at_epoch base g s v e good up in
    let agrees = subst (λ (o : Option Vertex). Agree o (lives (until e (past_of s.clock.records v None)) (root base v).life) (λ l. lists l (until e (past_of s.clock.records v None)) ((root base v).lists l))) found (graph_agrees base s v e whole at_e) in
    let vertex : is_place (Some n) ≡ true = ap is_place (sym found) ∙ whole_at v graph is_whole in
    all_by_label n.lists (and_parts (rise (map (λ y. y.label) n.lists)) (list_all (λ y. nat_lt 0 (length y.pairs) && are_pairs y.pairs) n.lists) vertex).0
    (λ l. let same = ap list_size (agrees.1 l) in let a = at_e.room l in let b = (bounded.logs v l).room in omega (arith, same, a, b)))

groups_lists : (base : Base) (g : Ghost) (s : State) (rs : List Record) → is_graph base.graph ≡ true → Good base g s → Bounded base run_limits s → ((r : Record) → In r rs → In r s.clock.records)
    → list_all (λ r. lists_fit (at base.graph s.clock.records r.epoch)) rs ≡ true
groups_lists base g s [] whole good bounded sub = refl
groups_lists base g s (r ∷ rs) whole good bounded sub =
    and_from (lists_fit (at base.graph s.clock.records r.epoch)) (list_all (λ u. lists_fit (at base.graph s.clock.records u.epoch)) rs)
    (lists_at base g s r.epoch whole good bounded (record_late base g s.clock.next_tid r s.clock.records good.records (sub r (inl refl))))
    (groups_lists base g s rs whole good bounded (λ u m. sub u (inr m)))

-- **History** of the records.
pub continues : (base : Base) (g : Ghost) (s : State) → IsGood base → Good base g s → Bounded base run_limits s → Continues base s.clock.records
continues base g s is_good good bounded =
    let low = last_below base g s (ltb-true base.epoch base.next_tid is_good.epoch) good in
    let tid = bounded.next_tid in
    record {
      epochs = subst (λ (rs : List Record). begins_after base.epoch rs ≡ true) good.lawful.are (begins_groups base.epoch good.lawful.groups good.lawful.grouped);
      groups = each_from _ s.clock.records (λ r. group_test base g s good r.epoch);
      each = records_test base g s.clock.next_tid base.next_vertex s.clock.next_vertex s.clock.records tid (λ r m. let a = epoch_low base g s r good m in omega (arith, a, low, tid)) good.records bounded.records;
      numbers = tids_differ base g s.clock.next_tid s.clock.records good.records;
      made = records_made base.next_vertex s.clock.next_vertex run_limits.txn s.clock.records bounded.next_vertex bounded.records;
      made_once = made_differ (all_changes s.clock.records) (λ v. (root base v).life) (λ v. vertex_fits base g s v good);
      fit = every_change_fits base g s is_good.graph good;
      no_overlap = apart_records base g s.clock.next_tid s.clock.records good.records good.lawful.apart;
      lists = groups_lists base g s s.clock.records is_good.graph good bounded (λ r m. m);
    }
