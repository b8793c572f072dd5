-- A kept state is sound: the eight facts follow from what every event keeps.
use Rattle.std.proofs.Common.{◌≡◌, ◌≢◌, ℕ, ◌+◌, ◌<◌, ◌≤◌, Bool, true, false, not, ◌&&◌, ◌||◌, List, [], ◌∷◌, ◌++◌, length, map, refl, sym, ap, ◌∙◌, subst, arith, Option, Some, None, ⊎_elim, ◌⊎◌, inl, inr}
use Rattle.std.proofs.Common.{min}
use Rattle.std.proofs.lemmas.Bool.{cases_lt, or_right, eq-eqb, eqb-true, and_from, or_parts, or_cases, false≢true, true≢false}
use Rattle.std.specs.Prelude.{if◌then◌else◌, ◌==◌}
use Rattle.std.specs.List.{list_any}
use Rattle.graph_model.specs.declared.change.Change.{Change}
use Rattle.graph_model.specs.declared.graph.Base.{Base}
use Rattle.graph_model.specs.declared.pairs.Pair.{Pair}
use Rattle.graph_model.specs.declared.record.Record.{Record}
use Rattle.graph_model.specs.declared.record.Outcome.{Outcome}
use Rattle.graph_model.specs.declared.record.Outcome.TheVariants.{Committed, Failed}
use Rattle.graph_model.specs.Vertex.{Vertex}
use Rattle.graph_model.specs.Change.{vertex_of}
use Rattle.graph_model.specs.Whole.{is_graph}
use Rattle.graph_model.specs.Graph.{vertex_at, pairs_in, at, changes_until}
use Rattle.graph_model.specs.Places.{changes_about, place_after}
use Rattle.graph_model.specs.Records.{changes_vertex, last_epoch as last_record, IsGood}
use Rattle.graph_model.proofs.Places.{vertex_at-after}
use Rattle.stamps.specs.declared.stamp.Stamp.{Stamp}
use Rattle.stamps.specs.declared.stamp.Stamp.TheVariants.{Never, At, By}
use Rattle.stamps.specs.Stamps.{Reader, Nobody, Txn, counts, is_private}
use Rattle.edge_log.specs.Entries.{Entry, shown}
use Rattle.edge_log.specs.Places.{TailIsBy}
use Rattle.vertex_versions.specs.declared.version.Version.{Version}
use Rattle.vertex_versions.specs.Versions.{payload_at}
use Rattle.vertex_locks.specs.declared.answer.Look.{Look}
use Rattle.vertex_locks.specs.declared.answer.Look.TheVariants.{Taken, Held, Conflict}
use Rattle.core_rows.specs.Rows.{Row, log_at, Life, Unborn, There, Gone, is_there, newest}
use Rattle.core_states.specs.declared.transaction.Stage.{Stage}
use Rattle.core_states.specs.declared.transaction.Stage.TheVariants.{Open, Queued, Decided}
use Rattle.core_states.specs.declared.transaction.Transaction.{Transaction}
use Rattle.core_states.specs.declared.transaction.End.{End}
use Rattle.core_states.specs.declared.transaction.End.TheVariants.{CommittedAt, Faulted, HeldBy, ConflictAt, Without}
use Rattle.core_states.specs.declared.transaction.Receipt.{Receipt}
use Rattle.core_states.specs.declared.actor.LastLook.{LastLook}
use Rattle.core_states.specs.Names.{Name}
use Rattle.core_states.specs.Numbers.{has_number, has_record, has_active}
use Rattle.core_states.specs.Draws.{with_tid, tids_of, TidsDrawn}
use Rattle.core_states.specs.Transactions.{is_open}
use Rattle.core_laws.proofs.Histories.{last_groups}
use Rattle.row_pasts.specs.RowFits.{StampFits, StampsFit, createds, settled_count, none_private, private_first, RowFits}
use Rattle.row_pasts.specs.Lives.{lives, lists, until, changes_of, stamped, Past, AllUntil, last_epoch}
use Rattle.core_states.specs.RowEvents.{Limits}
use Rattle.core_states.specs.Openings.{run_limits, IsAllowed}
use Rattle.core_kept.proofs.Bounding.{bounded_wider}
use Rattle.core_states.specs.States.{State}
use Rattle.core_kept.specs.Good.{Ghost, Good, Place, Nowhere, InQueue, InGroup, InLog, InFault, RowOkBy, In, AllWait, StageOk, is_in_log, outcome_at, is_of, past_of, records_but, root, root_at}
use Rattle.core_kept.specs.Tellings.{HeldOk, ConflictOk, EndOk, ReceiptOk, AllReceipts, LookOk, LookIs, LookedOk, Told}
use Rattle.core_kept.specs.Bounds.{Kept}
use Rattle.core_states.specs.Sound.{RunsAt, IsRun, InReceipts, History, IsApplied, Visibility, Readers, last_change, base_epoch, Ownership, past_vertex, own_vertex, EdgesShown, payload_of, VersionsShown, WasHeld, WasChanged, HasNoRecord, WaitsStill, HasFault, EndAgrees, LookAgrees, Receipts, Sound}
use Rattle.core_states.specs.declared.clock.Active.{Active}
use Rattle.core_states.specs.Numbers.{least}
use Rattle.core_kept.proofs.Steps.{least_each}
use Rattle.row_pasts.proofs.Pasts.{until_late}
use Rattle.core_states.proofs.Names.{some_is}
use Rattle.core_kept.proofs.Beginning.{none_some}
use Rattle.row_pasts.proofs.LogLemmas.{none_private_below, length-createds}
use Rattle.core_kept.proofs.Shows.{Agree, agree, root_agrees, front_fits, until_past, whole_at}
use Rattle.core_laws.proofs.Owners.{in_place, owner_of, visibility, owns}
use Rattle.core_laws.proofs.Continuing.{continues, changes_some, changes_has}

-- ---- History

history : (base : Base) (most : Limits) (s : State) → IsGood base → IsAllowed most → Kept base most s → History base s
history base most s is_good allowed kept = let good = kept.0.1 in record {
  continues = continues base kept.0.0 s is_good good (bounded_wider base most run_limits s allowed.txn allowed.log kept.1);
  last = sym good.lawful.last_is ∙ sym (last_groups base.epoch good.lawful.groups good.lawful.grouped) ∙ ap (last_record base.epoch) good.lawful.are;
  tids = kept.2;
  vertices = kept.3;
  unused = λ i x at v h. (good.drawn i x at v h).fresh;
  reads = λ i x at. (good.txns i x at).read_above;
}

-- ---- Visibility

-- a record that changed the vertex is of an epoch of its past
pub past_until : (n v : ℕ) (skip : Option ℕ) (r : Record) (rs : List Record) → AllUntil n (past_of rs v skip) → In r rs → is_of skip r.tid ≡ false → changes_about v r.changes ≢ [] → r.epoch ≤ n
past_until n v skip r [] all m s c = absurd m
past_until n v skip r (x ∷ rs) all m s c = by_skip (is_of skip x.tid) refl all m (λ a k. past_until n v skip r rs a k s c)
  where
    first : (cs : List Change) (ps : List Past) → cs ≢ [] → AllUntil n (stamped x.epoch cs ++ ps) → x.epoch ≤ n
    first [] ps e a = absurd (e refl)
    first (d ∷ cs) ps e a = a.0

    rest : (cs : List Change) (ps : List Past) → AllUntil n (stamped x.epoch cs ++ ps) → AllUntil n ps
    rest [] ps a = a
    rest (d ∷ cs) ps a = rest cs ps a.1

    by_skip : (b : Bool) → is_of skip x.tid ≡ b → AllUntil n (if b then past_of rs v skip else stamped x.epoch (changes_about v x.changes) ++ past_of rs v skip) → (r ≡ x) ⊎ In r rs → (AllUntil n (past_of rs v skip) → In r rs → r.epoch ≤ n) → r.epoch ≤ n
    by_skip true e a (inl is) ih = absurd (false≢true (sym s ∙ ap (λ (y : Record). is_of skip y.tid) is ∙ e))
    by_skip true e a (inr k) ih = ih a k
    by_skip false e a (inl is) ih = let q = ap (λ (y : Record). y.epoch) is in let l = first (changes_about v x.changes) (past_of rs v skip) (λ z. c (ap (λ (y : Record). changes_about v y.changes) is ∙ z)) a in omega (arith, q, l)
    by_skip false e a (inr k) ih = ih (rest (changes_about v x.changes) (past_of rs v skip) a) k

runs : (base : Base) (g : Ghost) (s : State) (v t : ℕ) → Good base g s → (s.row v).owner ≡ Some t → IsRun s t
runs base g s v t good owner = let ok = owner_of base g s v t good owner in record { actor = g.who t; txn = ok.txn; runs = ok.is; number = ok.tid }

applied_or_owned : (base : Base) (g : Ghost) (s : State) (r : Record) (v : ℕ) → Good base g s → In r s.clock.records → changes_vertex v r ≡ true → IsApplied s r v ⊎ (((s.row v).owner ≡ Some r.tid) × IsRun s r.tid)
applied_or_owned base g s r v good m changed = by_owner (s.row v).owner refl (good.rows v)
  where
    some : changes_about v r.changes ≢ []
    some = changes_some v r.changes changed

    by_owner : (o : Option ℕ) → (s.row v).owner ≡ o → RowOkBy o base g s.clock.records s.actor v (s.row v) → IsApplied s r v ⊎ (((s.row v).owner ≡ Some r.tid) × IsRun s r.tid)
    by_owner None owner ok = inl (past_until (s.row v).committed v None r s.clock.records ok.past_low m refl some)
    by_owner (Some t) owner ok = by_tid (r.tid == t) refl
      where
        by_tid : (b : Bool) → (r.tid == t) ≡ b → IsApplied s r v ⊎ (((s.row v).owner ≡ Some r.tid) × IsRun s r.tid)
        by_tid true e = let same = owner ∙ ap Some (sym (eqb-true r.tid t e)) in inr (same, runs base g s v r.tid good same)
        by_tid false e = inl (past_until (s.row v).committed v (Some t) r s.clock.records ok.fits.past_low m e some)

visible_applied : (base : Base) (g : Ghost) (s : State) (r : Record) (v : ℕ) → Good base g s → In r s.clock.records → changes_vertex v r ≡ true → r.epoch ≤ s.clock.visible → IsApplied s r v
visible_applied base g s r v good m changed low = ⊎_elim
    (λ (h : IsApplied s r v). h)
    (λ (h : ((s.row v).owner ≡ Some r.tid) × IsRun s r.tid). absurd (let above = visibility base g s v r good m h.0 in omega (arith, above, low)))
    (applied_or_owned base g s r v good m changed)

visibility_holds : (base : Base) (g : Ghost) (s : State) → Good base g s → Visibility s
visibility_holds base g s good = record {
  visible = good.visible;
  applied = λ r v m changed low. visible_applied base g s r v good m changed low;
  owned = λ r v m changed. applied_or_owned base g s r v good m changed;
}

-- ---- Readers

-- the least of a number and the epochs is the number, or one of the epochs
least_reached : (n : ℕ) (ps : List Active) → (least n ps ≡ n) ⊎ ((t : ℕ) × (has_active t (least n ps) ps ≡ true))
least_reached n [] = inl refl
least_reached n (x ∷ ps) = ⊎_elim here there (least_reached (min n x.epoch) ps)
  where
    this : (m : ℕ) → m ≡ x.epoch → has_active x.tid m (x ∷ ps) ≡ true
    this m e = rw (eq-eqb x.tid x.tid refl) (rw (eq-eqb x.epoch m (sym e)) refl)

    here : least (min n x.epoch) ps ≡ min n x.epoch → (least (min n x.epoch) ps ≡ n) ⊎ ((t : ℕ) × (has_active t (least (min n x.epoch) ps) (x ∷ ps) ≡ true))
    here e = ⊎_elim (λ (lt : n < x.epoch). inl (omega (arith, e, lt))) (λ (le : x.epoch ≤ n). inr (x.tid, this (least (min n x.epoch) ps) (omega (arith, e, le)))) (cases_lt n x.epoch)

    there : (t : ℕ) × (has_active t (least (min n x.epoch) ps) ps ≡ true) → (least (min n x.epoch) ps ≡ n) ⊎ ((t : ℕ) × (has_active t (least (min n x.epoch) ps) (x ∷ ps) ≡ true))
    there h = inr (h.0, or_right (x.tid == h.0 && x.epoch == least (min n x.epoch) ps) (has_active h.0 (least (min n x.epoch) ps) ps) h.1)

readers : (base : Base) (g : Ghost) (s : State) → Good base g s → Readers s
readers base g s good = record {
  active = λ t e has. let run = good.active t e has in (record { actor = g.who t; txn = run.txn; runs = run.is; number = run.tid }, run.read);
  rows = λ i x at. (good.txns i x at).row;
  reads = λ i x at. (good.txns i x at).read_below;
  below = λ i x at. least_each s.clock.visible x.tid x.read s.clock.rows (good.txns i x at).row;
  reached = least_reached s.clock.visible s.clock.rows;
  horizon = λ i j x at. (good.learnt i).reads x.tid x.read (good.txns j x at).row;
  horizon_visible = λ i. (good.learnt i).visible;
  oldest = λ i j x at. (good.learnt i).tids x.tid x.read (good.txns j x at).row;
  oldest_next = λ i. (good.learnt i).next;
}

-- ---- Ownership

-- What a row is, given its owner or none: its past, and its owner's changes.
record RowTells (base : Base) (s : State) (v : ℕ) : Type 0 where
  own : List Change
  fits : RowFits base.epoch (root base v) (past_of s.clock.records v (s.row v).owner) own (s.row v)

stands : (base : Base) (g : Ghost) (s : State) (v : ℕ) → Good base g s → RowTells base s v
stands base g s v good = by_owner (s.row v).owner refl (good.rows v)
  where
    by_owner : (o : Option ℕ) → (s.row v).owner ≡ o → RowOkBy o base g s.clock.records s.actor v (s.row v) → RowTells base s v
    by_owner None owner ok = record { own = []; fits = subst (λ (o : Option ℕ). RowFits base.epoch (root base v) (past_of s.clock.records v o) [] (s.row v)) (sym owner) ok }
    by_owner (Some t) owner ok = record { own = changes_about v ok.txn.own; fits = subst (λ (o : Option ℕ). RowFits base.epoch (root base v) (past_of s.clock.records v o) (changes_about v ok.txn.own) (s.row v)) (sym owner) ok.fits }

last_of_past : (n v : ℕ) (skip : Option ℕ) (rs : List Record) → last_epoch n (past_of rs v skip) ≡ last_change n v (records_but skip rs)
last_of_past n v skip [] = refl
last_of_past n v skip (r ∷ rs) = by_skip (is_of skip r.tid) (λ m. last_of_past m v skip rs)
  where
    past : (cs : List Change) (m : ℕ) (ps : List Past) → list_any (λ c. vertex_of c == v) cs ≡ true → last_epoch m (stamped r.epoch (changes_about v cs) ++ ps) ≡ last_epoch r.epoch ps
    past [] m ps has = absurd (false≢true has)
    past (c ∷ cs) m ps has = by_vertex (vertex_of c == v) has (λ k. past cs k ps)
      where
        after : (ds : List Change) → last_epoch r.epoch (stamped r.epoch ds ++ ps) ≡ last_epoch r.epoch ps
        after [] = refl
        after (d ∷ ds) = after ds

        by_vertex : (b : Bool) → (b || list_any (λ d. vertex_of d == v) cs) ≡ true → ((k : ℕ) → list_any (λ d. vertex_of d == v) cs ≡ true → last_epoch k (stamped r.epoch (changes_about v cs) ++ ps) ≡ last_epoch r.epoch ps)
            → last_epoch m (stamped r.epoch (if b then c ∷ changes_about v cs else changes_about v cs) ++ ps) ≡ last_epoch r.epoch ps
        by_vertex true h ih = after (changes_about v cs)
        by_vertex false h ih = ih m h

    none : (cs : List Change) → list_any (λ c. vertex_of c == v) cs ≡ false → changes_about v cs ≡ []
    none [] h = refl
    none (c ∷ cs) h = let q = or_parts (vertex_of c == v) (list_any (λ d. vertex_of d == v) cs) h in rw q.0 (none cs q.1)

    by_changed : (b : Bool) → changes_vertex v r ≡ b → ((m : ℕ) → last_epoch m (past_of rs v skip) ≡ last_change m v (records_but skip rs)) → last_epoch n (stamped r.epoch (changes_about v r.changes) ++ past_of rs v skip) ≡ (if b then last_change r.epoch v (records_but skip rs) else last_change n v (records_but skip rs))
    by_changed true h ih = past r.changes n (past_of rs v skip) h ∙ ih r.epoch
    by_changed false h ih = ap (λ cs. last_epoch n (stamped r.epoch cs ++ past_of rs v skip)) (none r.changes h) ∙ ih n

    by_skip : (b : Bool) → ((m : ℕ) → last_epoch m (past_of rs v skip) ≡ last_change m v (records_but skip rs)) → last_epoch n (if b then past_of rs v skip else stamped r.epoch (changes_about v r.changes) ++ past_of rs v skip) ≡ last_change n v (if b then records_but skip rs else r ∷ records_but skip rs)
    by_skip true ih = ih n
    by_skip false ih = by_changed (changes_vertex v r) refl ih

root_epoch : (base : Base) (o : Option Vertex) → (root_at base.epoch o).epoch ≡ base_epoch base o
root_epoch base None = refl
root_epoch base (Some x) = refl

-- the entries above the settled ones are private, and those the owner's
tail_private : (n t : ℕ) (xs : List Entry) → StampsFit n (Some t) xs → private_first (createds xs) ≡ true → TailIsBy t (settled_count (createds xs)) xs
tail_private n t [] fit first = tt
tail_private n t (x ∷ xs) fit first = by_stamp x.created refl fit.0 first (tail_private n t xs fit.2)
  where
    later : (k : ℕ) (ys : List Entry) → length ys ≤ k → TailIsBy t k ys
    later k [] le = tt
    later k (y ∷ ys) le = ((λ low. absurd (omega (arith, low, le))), later k ys (omega arith))

    same : (u : ℕ) → Some t ≡ Some u → By u ≡ By t
    same u e = (cc)

    by_stamp : (c : Stamp) → x.created ≡ c → StampFits n (Some t) c → (if is_private c then private_first (createds xs) else none_private (createds xs)) ≡ true → (private_first (createds xs) ≡ true → TailIsBy t (settled_count (createds xs)) xs)
        → (((if is_private x.created then settled_count (createds xs) else length (createds xs) + 1) ≤ length xs) → x.created ≡ By t) × TailIsBy t (if is_private x.created then settled_count (createds xs) else length (createds xs) + 1) xs
    by_stamp Never is f first ih = rw is (let q = length-createds xs in ((λ low. absurd (omega (arith, low, q))), later (length (createds xs) + 1) xs (omega (arith, q))))
    by_stamp (At m) is f first ih = rw is (let q = length-createds xs in ((λ low. absurd (omega (arith, low, q))), later (length (createds xs) + 1) xs (omega (arith, q))))
    by_stamp (By u) is f first ih = rw is ((λ low. same u f), ih first)

plain_private : (n : ℕ) (xs : List Entry) → StampsFit n None xs → none_private (createds xs) ≡ true
plain_private n [] fit = refl
plain_private n (x ∷ xs) fit = and_from (not (is_private x.created)) (none_private (createds xs)) (by_stamp x.created fit.0) (plain_private n xs fit.2)
  where
    by_stamp : (c : Stamp) → StampFits n None c → not (is_private c) ≡ true
    by_stamp Never f = refl
    by_stamp (At m) f = refl
    by_stamp (By u) f = absurd (none_some u f)

all_settled : (xs : List Stamp) → none_private xs ≡ true → settled_count xs ≡ length xs
all_settled [] p = refl
all_settled (x ∷ xs) p = grind arith

ownership : (base : Base) (g : Ghost) (s : State) → Good base g s → Ownership base s
ownership base g s good = record {
  held = λ i x v at h. good.held i x at v h;
  owns = λ i x v at o. owns base g s i v x good at o;
  owner = λ v t o. let ok = owner_of base g s v t good o in (record { actor = g.who t; txn = ok.txn; runs = ok.is; number = ok.tid }, ok.read);
  committed = λ v. let st = stands base g s v good in st.fits.committed ∙ last_of_past (root base v).epoch v (s.row v).owner s.clock.records ∙ ap (λ n. last_change n v (records_but (s.row v).owner s.clock.records)) (root_epoch base (vertex_at v base.graph));
  stamps = λ v l. ((stands base g s v good).fits.logs l).stamps;
  versions = λ v. (stands base g s v good).fits.life.stamps;
  tail = λ v l t o. let fit = (stands base g s v good).fits.logs l in
      rw fit.count (tail_private (s.row v).committed t (log_at (s.row v).logs l).entries (subst (λ (w : Option ℕ). StampsFit (s.row v).committed w (log_at (s.row v).logs l).entries) o fit.stamps) fit.order);
  no_tail = λ v l o. let fit = (stands base g s v good).fits.logs l in
      fit.count ∙ all_settled (createds (log_at (s.row v).logs l).entries) (plain_private (s.row v).committed (log_at (s.row v).logs l).entries (subst (λ (w : Option ℕ). StampsFit (s.row v).committed w (log_at (s.row v).logs l).entries) o fit.stamps)) ∙ length-createds (log_at (s.row v).logs l).entries;
  below = λ v l. let fit = (stands base g s v good).fits.logs l in rw fit.count (none_private_below (log_at (s.row v).logs l).entries fit.order);
}

-- ---- EdgesShown and VersionsShown

-- what the records but the owner's make of a vertex up to an epoch
past_agrees : (base : Base) (g : Ghost) (s : State) (v e : ℕ) → is_graph base.graph ≡ true → Good base g s
    → Agree (past_vertex base s v e) (lives (until e (past_of s.clock.records v (s.row v).owner)) (root base v).life) (λ l. lists l (until e (past_of s.clock.records v (s.row v).owner)) ((root base v).lists l))
past_agrees base g s v e whole good =
    let st = stands base g s v good in
    let past = past_of s.clock.records v (s.row v).owner in
    let cs = until e past in
    let rs = records_but (s.row v).owner s.clock.records in
    let node : place_after cs (vertex_at v base.graph) ≡ past_vertex base s v e = ap (λ ds. place_after ds (vertex_at v base.graph)) (until_past s.clock.records v e (s.row v).owner) ∙ sym (vertex_at-after v (changes_until e rs) base.graph) in
    subst (λ (o : Option Vertex). Agree o (lives cs (root base v).life) (λ l. lists l cs ((root base v).lists l))) node
    (agree cs (vertex_at v base.graph) (root base v).life (root base v).lists (front_fits e past base.epoch (s.row v) (root base v) st.own st.fits) (root_agrees base.epoch (vertex_at v base.graph) (whole_at v base.graph whole)))

-- and then the owner's own changes
own_agrees : (base : Base) (g : Ghost) (s : State) (i : Name) (v : ℕ) (x : Transaction) → is_graph base.graph ≡ true → Good base g s → RunsAt s i x → (s.row v).owner ≡ Some x.tid
    → (newest (s.row v).versions x.read (Txn x.tid) ≡ lives (changes_about v x.own) (lives (changes_of (past_of s.clock.records v (Some x.tid))) (root base v).life))
    × ((l : ℕ) → shown (log_at (s.row v).logs l).entries x.read (Txn x.tid) ≡ lists l (changes_about v x.own) (lists l (changes_of (past_of s.clock.records v (Some x.tid))) ((root base v).lists l)))
    × Agree (own_vertex base s v x) (lives (changes_about v x.own) (lives (changes_of (past_of s.clock.records v (Some x.tid))) (root base v).life)) (λ l. lists l (changes_about v x.own) (lists l (changes_of (past_of s.clock.records v (Some x.tid))) ((root base v).lists l)))
own_agrees base g s i v x whole good runs owner =
    let ok = owner_of base g s v x.tid good owner in
    let is : ok.txn ≡ x = some_is ok.txn x (sym ok.is ∙ ap (λ j. (s.actor j).txn) (good.txns i x runs).who ∙ runs) in
    let past = past_of s.clock.records v (Some x.tid) in
    let own = changes_about v x.own in
    let low : (s.row v).committed ≤ x.read = rw (← is) ok.read in
    let fit : RowFits base.epoch (root base v) past own (s.row v) = subst (λ (y : Transaction). RowFits base.epoch (root base v) past (changes_about v y.own) (s.row v)) is ok.fits in
    let all : until x.read past ≡ changes_of past = until_late (s.row v).committed x.read past fit.past_low low in
    let before : Agree (past_vertex base s v x.read) (lives (changes_of past) (root base v).life) (λ l. lists l (changes_of past) ((root base v).lists l)) =
    subst (λ (cs : List Change). Agree (past_vertex base s v x.read) (lives cs (root base v).life) (λ l. lists l cs ((root base v).lists l))) (ap (λ o. until x.read (past_of s.clock.records v o)) owner ∙ all) (past_agrees base g s v x.read whole good) in (
      fit.life.mine x.tid owner x.read low,
      λ l. (fit.logs l).mine x.tid owner x.read low,
      subst (λ (o : Option Vertex). Agree o (lives own (lives (changes_of past) (root base v).life)) (λ l. lists l own (lists l (changes_of past) ((root base v).lists l))))
          (sym (vertex_at-after v x.own (at base.graph (records_but (s.row v).owner s.clock.records) x.read)))
          (agree own (past_vertex base s v x.read) (lives (changes_of past) (root base v).life) (λ l. lists l (changes_of past) ((root base v).lists l)) fit.own_fits before),
    )

agree_lists : (n : Option Vertex) (m : Vertex) (x : Life) (f : ℕ → List Pair) (l : ℕ) → n ≡ Some m → Agree n x f → pairs_in m.lists l ≡ f l
agree_lists n m x f l is agree = (subst (λ (o : Option Vertex). Agree o x f) is agree).1 l

edges_shown : (base : Base) (g : Ghost) (s : State) → is_graph base.graph ≡ true → Good base g s → EdgesShown base s
edges_shown base g s whole good = record {
  others = λ v e up n is l. ((stands base g s v good).fits.logs l).others e up ∙ sym (agree_lists (past_vertex base s v e) n _ _ l is (past_agrees base g s v e whole good));
  mine = λ i x v runs owner n is l. let a = own_agrees base g s i v x whole good runs owner in a.1 l ∙ sym (agree_lists (own_vertex base s v x) n _ _ l is a.2);
  plain = λ v l o. subst (λ (w : Option ℕ). StampsFit (s.row v).committed w (log_at (s.row v).logs l).entries) o ((stands base g s v good).fits.logs l).stamps;
}

-- the payload of a life
abbrev life_payload : Life → Option (List ℕ)
life_payload Unborn = None
life_payload (There p) = Some p
life_payload Gone = None

-- the payload of what a reader sees
payload_life : (xs : List Version) (e : ℕ) (who : Reader) → payload_at xs e who ≡ life_payload (newest xs e who)
payload_life [] e who = refl
payload_life (x ∷ xs) e who = by_counts (counts x.created e who) refl x.content (payload_life xs e who)
  where
    by_counts : (b : Bool) → counts x.created e who ≡ b → (c : Option (List ℕ)) → payload_at xs e who ≡ life_payload (newest xs e who) → payload_at (x ∷ xs) e who ≡ life_payload (newest (x ∷ xs) e who)
    by_counts true h c ih = rw h (by_content x.content)
      where
        by_content : (d : Option (List ℕ)) → d ≡ life_payload (Rattle.core_rows.specs.Rows.life_of d)
        by_content None = refl
        by_content (Some p) = refl
    by_counts false h c ih = rw h ih

agree_payload : (n : Option Vertex) (x : Life) (f : ℕ → List Pair) → Agree n x f → life_payload x ≡ payload_of n
agree_payload None Unborn f agree = refl
agree_payload None (There p) f agree = absurd (true≢false agree)
agree_payload None Gone f agree = refl
agree_payload (Some n) x f agree = ap life_payload agree.0

versions_shown : (base : Base) (g : Ghost) (s : State) → is_graph base.graph ≡ true → Good base g s → VersionsShown base s
versions_shown base g s whole good = record {
  others = λ v e up. payload_life (s.row v).versions e Nobody ∙ ap life_payload ((stands base g s v good).fits.life.others e up) ∙ agree_payload (past_vertex base s v e) _ _ (past_agrees base g s v e whole good);
  mine = λ i x v runs owner. let a = own_agrees base g s i v x whole good runs owner in payload_life (s.row v).versions x.read (Txn x.tid) ∙ ap life_payload a.0 ∙ agree_payload (own_vertex base s v x) _ _ a.2;
}

-- ---- Receipts

waits_has : (base : Base) (g : Ghost) (s : State) (p : Place) (t : ℕ) (rs : List Record) → AllWait g s.actor p rs → has_record t rs ≡ true → g.place t ≡ p
waits_has base g s p t [] all has = absurd (false≢true has)
waits_has base g s p t (r ∷ rs) all has = ⊎_elim
    (λ (e : (r.tid == t) ≡ true). ap g.place (sym (eqb-true r.tid t e)) ∙ all.0.place)
    (λ (e : has_record t rs ≡ true). waits_has base g s p t rs all.2 e)
    (or_cases (r.tid == t) (has_record t rs) has)

has_not : (b : Bool) → (b ≡ true → ⊥) → b ≡ false
has_not true n = absurd (n refl)
has_not false n = refl

no_record : (base : Base) (g : Ghost) (s : State) (t : ℕ) (p : Place) → Good base g s → g.place t ≡ p → is_in_log p ≡ false → (p ≡ InQueue → ⊥) → ((i : Name) → p ≡ InGroup i → ⊥) → HasNoRecord s t
no_record base g s t p good at none queue group = record {
  records = good.recorded t ∙ ap is_in_log at ∙ none;
  queue = has_not (has_record t s.clock.queue) (λ has. queue (sym at ∙ waits_has base g s InQueue t s.clock.queue good.queue has));
  groups = λ i. has_not (has_record t (s.actor i).group) (λ has. group i (sym at ∙ waits_has base g s (InGroup i) t (s.actor i).group (good.groups i) has));
}

no_record_nowhere : (base : Base) (g : Ghost) (s : State) (t : ℕ) → Good base g s → g.place t ≡ Nowhere → HasNoRecord s t
no_record_nowhere base g s t good at = no_record base g s t Nowhere good at refl (λ e. (cc)) (λ i e. (cc))

no_record_fault : (base : Base) (g : Ghost) (s : State) (t b a : ℕ) → Good base g s → g.place t ≡ InFault b a → HasNoRecord s t
no_record_fault base g s t b a good at = no_record base g s t (InFault b a) good at refl (λ e. (cc)) (λ i e. (cc))

pub was_held : (base : Base) (g : Ghost) (s : State) (v t read : ℕ) → Good base g s → HeldOk g s v t read → WasHeld s v t read
was_held base g s v t read good ok = record {
  actor = g.who t;
  touched = ok.touched;
  later = λ r m e. ok.later r.epoch (ap g.place (sym e) ∙ in_place base g s.clock.next_tid r s.clock.records good.records m);
}

pub was_changed : (s : State) (v e : ℕ) → ConflictOk s v e → WasChanged s v e
was_changed s v e ok = record { record_is = ok.record_is; among = ok.among; epoch = ok.epoch; changed = changes_has v ok.record_is.changes ok.changed }

end_holds : (base : Base) (g : Ghost) (s : State) (r : Receipt) (end : End) → Good base g s → EndOk g s r end → EndAgrees s r end
end_holds base g s r (CommittedAt e) good ok = ok.1
end_holds base g s r (Faulted b a) good ok = (no_record_fault base g s r.tid b a good ok, good.outcomes r.tid ∙ ap outcome_at ok)
end_holds base g s r (HeldBy v t) good ok = (no_record_nowhere base g s r.tid good ok.0, was_held base g s v t r.read good ok.1)
end_holds base g s r (ConflictAt v e) good ok = (no_record_nowhere base g s r.tid good ok.0, was_changed s v e ok.1)
end_holds base g s r Without good ok = no_record_nowhere base g s r.tid good ok

receipt_of_number : (t : ℕ) (us : List Receipt) → has_number t (map (λ u. u.tid) us) ≡ true → (u : Receipt) × InReceipts u us × (u.tid ≡ t)
receipt_of_number t [] has = absurd (false≢true has)
receipt_of_number t (u ∷ us) has = ⊎_elim
    (λ (e : (u.tid == t) ≡ true). (u, inl refl, eqb-true u.tid t e))
    (λ (e : has_number t (map (λ x. x.tid) us) ≡ true). let f = receipt_of_number t us e in (f.0, inr f.1, f.2))
    (or_cases (u.tid == t) (has_number t (map (λ x. x.tid) us)) has)

receipt_in : (g : Ghost) (s : State) (r : Receipt) (rs : List Receipt) → AllReceipts g s rs → InReceipts r rs → ReceiptOk g s r
receipt_in g s r [] ok m = absurd m
receipt_in g s r (x ∷ rs) ok (inl is) = subst (λ y. ReceiptOk g s y) (sym is) ok.0
receipt_in g s r (x ∷ rs) ok (inr m) = receipt_in g s r rs ok.1 m

look_holds : (base : Base) (g : Ghost) (s : State) (read v : ℕ) (look : Look) → Good base g s → LookIs g s read v look → LookAgrees s read v look
look_holds base g s read v Taken good ok = tt
look_holds base g s read v (Held t) good ok = was_held base g s v t read good ok
look_holds base g s read v (Conflict e) good ok = was_changed s v e ok

looked_holds : (base : Base) (g : Ghost) (s : State) (i : Name) (x : Transaction) (look : LastLook) → Good base g s → Told g s → RunsAt s i x → (s.actor i).looked ≡ Some look → LookAgrees s x.read look.v look.look
looked_holds base g s i x look good told runs is =
    look_holds base g s x.read look.v look.look good
    (subst (λ (o : Option LastLook). LookOk g s x.read o) is (subst (λ (o : Option Transaction). LookedOk g s o (s.actor i).looked) runs (told i).1))

learnt_outcome : (g : Ghost) (t : ℕ) (stage : Stage) (settled : List ℕ) (o : Outcome) → StageOk stage settled (g.place t) → stage ≡ Decided o → outcome_at (g.place t) ≡ Some o
learnt_outcome g t Open settled o ok is = absurd (cc)
learnt_outcome g t Queued settled o ok is = absurd (cc)
learnt_outcome g t (Decided (Committed e)) settled o ok is = ap outcome_at ok ∙ ap Some (same is)
  where
    same : Decided (Committed e) ≡ Decided o → Committed e ≡ o
    same q = (cc)
learnt_outcome g t (Decided (Failed b a)) settled o ok is = ap outcome_at ok ∙ ap Some (same is)
  where
    same : Decided (Failed b a) ≡ Decided o → Failed b a ≡ o
    same q = (cc)

place_committed : (p : Place) (e : ℕ) → outcome_at p ≡ Some (Committed e) → p ≡ InLog e
place_committed Nowhere e is = absurd (none_some (Committed e) is)
place_committed InQueue e is = absurd (none_some (Committed e) is)
place_committed (InGroup i) e is = absurd (none_some (Committed e) is)
place_committed (InLog h) e is = same (some_is (Committed h) (Committed e) is)
  where
    same : Committed h ≡ Committed e → InLog h ≡ InLog e
    same q = let x : h ≡ e = (cc) in ap InLog x
place_committed (InFault b a) e is = absurd (cc)

same_log : (h e : ℕ) → InLog h ≡ InLog e → h ≡ e
same_log h e q = (cc)

record_found : (t : ℕ) (rs : List Record) → has_record t rs ≡ true → (r : Record) × In r rs × (r.tid ≡ t)
record_found t [] has = absurd (false≢true has)
record_found t (r ∷ rs) has = ⊎_elim
    (λ (e : (r.tid == t) ≡ true). (r, inl refl, eqb-true r.tid t e))
    (λ (e : has_record t rs ≡ true). let f = record_found t rs e in (f.0, inr f.1, f.2))
    (or_cases (r.tid == t) (has_record t rs) has)

pub place_failed : (p : Place) (b a : ℕ) → outcome_at p ≡ Some (Failed b a) → p ≡ InFault b a
place_failed Nowhere b a is = absurd (none_some (Failed b a) is)
place_failed InQueue b a is = absurd (none_some (Failed b a) is)
place_failed (InGroup i) b a is = absurd (none_some (Failed b a) is)
place_failed (InLog h) b a is = absurd (cc)
place_failed (InFault c d) b a is = same (some_is (Failed c d) (Failed b a) is)
  where
    same : Failed c d ≡ Failed b a → InFault c d ≡ InFault b a
    same q = let x : c ≡ b = (cc) in let y : d ≡ a = (cc) in λ k. InFault (x k) (y k)

-- a transaction whose record has failed: its record was queued
fault_stage : (b a : ℕ) (stage : Stage) (settled : List ℕ) (p : Place) → StageOk stage settled p → p ≡ InFault b a → is_open stage ≡ false
fault_stage b a Open settled p ok is = let q : Nowhere ≡ InFault b a = sym ok ∙ is in absurd (cc)
fault_stage b a Queued settled p ok is = refl
fault_stage b a (Decided o) settled p ok is = refl

fault_end : (g : Ghost) (s : State) (r : Receipt) (end : End) (b a : ℕ) → EndOk g s r end → g.place r.tid ≡ InFault b a → end ≡ Faulted b a
fault_end g s r (CommittedAt e) b a ok at = let q : InLog e ≡ InFault b a = sym ok.0 ∙ at in absurd (cc)
fault_end g s r (Faulted c d) b a ok at = same (sym ok ∙ at)
  where
    same : InFault c d ≡ InFault b a → Faulted c d ≡ Faulted b a
    same q = let x : c ≡ b = (cc) in let y : d ≡ a = (cc) in λ k. Faulted (x k) (y k)
fault_end g s r (HeldBy v t) b a ok at = let q : Nowhere ≡ InFault b a = sym ok.0 ∙ at in absurd (cc)
fault_end g s r (ConflictAt v e) b a ok at = let q : Nowhere ≡ InFault b a = sym ok.0 ∙ at in absurd (cc)
fault_end g s r Without b a ok at = let q : Nowhere ≡ InFault b a = sym ok ∙ at in absurd (cc)

-- so each failed number has its transaction
pub failed_number : (base : Base) (g : Ghost) (s : State) (t b a : ℕ) → Good base g s → Told g s → TidsDrawn base s → g.place t ≡ InFault b a → WaitsStill s t ⊎ HasFault s t b a
failed_number base g s t b a good told drawn at =
    ⊎_elim (λ (lt : t < base.next_tid). absurd (nowhere_fault (good.before t lt)))
    (λ (low : base.next_tid ≤ t). ⊎_elim (λ (lt : t < s.clock.next_tid). by_txn (s.actor (drawn.drawer t)).txn refl (drawn.each t low lt)) (λ (up : s.clock.next_tid ≤ t). absurd (nowhere_fault (good.nowhere t up))) (cases_lt t s.clock.next_tid))
    (cases_lt t base.next_tid)
  where
    nowhere_fault : g.place t ≡ Nowhere → ⊥
    nowhere_fault e = let q : Nowhere ≡ InFault b a = sym e ∙ at in (cc)

    i : Name
    i = drawn.drawer t

    by_receipt : has_number t (map (λ r. r.tid) (s.actor i).receipts) ≡ true → WaitsStill s t ⊎ HasFault s t b a
    by_receipt has =
        let u = receipt_of_number t (s.actor i).receipts has in
        inr (record { actor = i; receipt = u.0; among = u.1; number = u.2; ends = fault_end g s u.0 u.0.ends b a (receipt_in g s u.0 (s.actor i).receipts (told i).0 u.1).ends (ap g.place u.2 ∙ at) })

    by_txn : (o : Option Transaction) → (s.actor i).txn ≡ o → has_number t (tids_of (s.actor i)) ≡ true → WaitsStill s t ⊎ HasFault s t b a
    by_txn None is has = by_receipt (ap (λ p. has_number t (with_tid p (map (λ r. r.tid) (s.actor i).receipts))) (sym is) ∙ has)
    by_txn (Some x) is has = ⊎_elim
        (λ (e : (x.tid == t) ≡ true). let same = eqb-true x.tid t e in inl (record { run = record { actor = i; txn = x; runs = is; number = same }; queued = fault_stage b a x.stage x.settled (g.place x.tid) (good.txns i x is).stage (ap g.place same ∙ at) }))
        by_receipt
        (or_cases (x.tid == t) (has_number t (map (λ r. r.tid) (s.actor i).receipts)) (ap (λ p. has_number t (with_tid p (map (λ r. r.tid) (s.actor i).receipts))) (sym is) ∙ has))

receipts : (base : Base) (g : Ghost) (s : State) → Good base g s → Told g s → TidsDrawn base s → Receipts s
receipts base g s good told drawn = record {
  ends = λ i r m. end_holds base g s r r.ends good (receipt_in g s r (s.actor i).receipts (told i).0 m).ends;
  looks = λ i x look runs is. looked_holds base g s i x look good told runs is;
  learnt = λ i x o runs is. good.outcomes x.tid ∙ learnt_outcome g x.tid x.stage x.settled o (good.txns i x runs).stage is;
  committed = λ r m. good.outcomes r.tid ∙ ap outcome_at (in_place base g s.clock.next_tid r s.clock.records good.records m);
  recorded = λ t e is.
      let at : g.place t ≡ InLog e = place_committed (g.place t) e (sym (good.outcomes t) ∙ is) in
      let found = record_found t s.clock.records (good.recorded t ∙ ap is_in_log at) in
      (found.0, found.1, found.2, same_log found.0.epoch e (sym (in_place base g s.clock.next_tid found.0 s.clock.records good.records found.1) ∙ ap g.place found.2 ∙ at));
  queued = λ t has. good.outcomes t ∙ ap outcome_at (waits_has base g s InQueue t s.clock.queue good.queue has);
  collected = λ i t has. good.outcomes t ∙ ap outcome_at (waits_has base g s (InGroup i) t (s.actor i).group (good.groups i) has);
  failed = λ t b a is. let at = place_failed (g.place t) b a (sym (good.outcomes t) ∙ is) in (no_record_fault base g s t b a good at, failed_number base g s t b a good told drawn at);
}

-- A kept state is sound.
pub kept_sound : (base : Base) (most : Limits) (s : State) → IsGood base → IsAllowed most → Kept base most s → Sound base s
kept_sound base most s is_good allowed kept =
    let g = kept.0.0 in let good = kept.0.1 in let told = kept.0.2 in
    record {
      history = history base most s is_good allowed kept;
      visibility = visibility_holds base g s good;
      readers = readers base g s good;
      ownership = ownership base g s good;
      edges_shown = edges_shown base g s is_good.graph good;
      versions_shown = versions_shown base g s is_good.graph good;
      receipts = receipts base g s good told kept.2;
      durability = kept.4;
    }
