-- One worker: the invariant of the open transactions and of the records, kept by each line.
use Rattle.std.proofs.Common.{◌≡◌, ℕ, ◌+◌, ◌<◌, ◌≤◌, Bool, true, false, not, cond, ◌&&◌, List, [], ◌∷◌, ◌++◌, length, refl, sym, ap, ◌∙◌, subst, inl, inr, arith, append-nil, lit≤}
use Rattle.std.specs.Prelude.{◌⊎◌, ◌==◌, nat_lt, nat_le, filter, flat_map, Option, Some, None, is_none}
use Rattle.std.specs.List.{list_any, list_all}
use Rattle.std.proofs.lemmas.Bool.{both_ways, false≢true, cases_Bool, ltb-true, leb-true, lt-ltb, and_parts, and_from, or_parts, or_cases, or_from, or_left, or_right, and_right, eqb-true, eqb-false, eq-eqb, false_from_ne_true, ne_eqb}
use Rattle.graph_model.specs.declared.record.Record.{Record}
use Rattle.graph_model.specs.declared.graph.Base.{Base}
use Rattle.graph_model.specs.Vertex.{Vertex}
use Rattle.graph_model.specs.declared.change.Change.{Change}
use Rattle.graph_model.specs.declared.change.Change.TheVariants as change
use Rattle.graph_model.specs.Change.{vertex_of}
use Rattle.graph_model.specs.Graph.{vertex_at, vertex_after, at, after, apply, each_step, fits_at, changes_until}
use Rattle.graph_model.specs.Records.{changes_vertex, apart, all_differ, made_vertices, all_changes, number_end, IsGood, is_good_vertex}
use Rattle.graph_model.proofs.Vertices.{each_step-append, each_step-same, vertex_at-apply, at-newest}
use Rattle.request_text.specs.declared.request.Request.{Request}
use Rattle.request_text.specs.declared.request.Request.TheVariants as request
use Rattle.request_text.specs.declared.reply.Reply.{Reply}
use Rattle.request_text.specs.declared.reply.Reply.TheVariants as reply
use Rattle.graph_legal.specs.Lines.{Replied, same_worker}
use Rattle.graph_legal.specs.Traces.{Trace, trace_of, trace_after, open_trace, taken_at, grown, fresh, is_among, is_ending, is_taking, named_for_change, is_blocked, is_taken_by_other, has_committed}
use Rattle.graph_legal.specs.Kinds.{is_in_kind}
use Rattle.graph_legal.specs.TraceOk.{Run, HoldsIn, MayTakeVertex, here}
use Rattle.graph_legal.specs.Legal.{begun_number, begun_numbers, given_vertex, given_vertices}
use Rattle.graph_legal.specs.OneWorker.{keeps_lists, keeps_within, has_fit_destination, record_at, record_in}
use Rattle.graph_legal.proofs.Owing.{EachHoldsWhenGiven, NumberHolds, committed_records, epoch_of, so_far}
use Rattle.graph_legal.proofs.Holding.{before-one, read-at-most, each_among, all_known, ReadAtMost, RunWith}
use Rattle.graph_legal.proofs.Epochs.{epochs-one, epochs_at_most, base_epoch-one}
use Rattle.graph_legal.proofs.Numbers.{none_above, more_begun}
use Rattle.graph_legal.proofs.Sessions.{IsOpen, AreApart, adds, open-grown, open-kept, open-recorded, apart_last, apart-push, made-append, among-append, differ-append, all_changes-push, untouched}

-- ---- a new vertex is nowhere

find_none : (v next : ℕ) (graph : List Vertex) → next ≤ v → list_all (is_good_vertex next) graph ≡ true → vertex_at v graph ≡ None
find_none v next [] le h = refl
find_none v next (x ∷ graph) le h =
    let parts = and_parts (is_good_vertex next x) (list_all (is_good_vertex next) graph) h in
    let bounds = and_parts (nat_lt 0 x.number && nat_lt x.number next) _ parts.0 in
    let lt = ltb-true x.number next (and_parts (nat_lt 0 x.number) (nat_lt x.number next) bounds.0).1 in
    rw (ne_eqb x.number v (λ e. omega (arith, lt, le, e))) (find_none v next graph le parts.1)

none_after : (v : ℕ) (c : Change) (graph : List Vertex) → vertex_at v graph ≡ None → is_among v (made_vertices (c ∷ [])) ≡ false → vertex_at v (apply c graph) ≡ None
none_after v c graph none h =
    vertex_at-apply v c graph ∙ elim (vertex_of c == v) as (λ b. (vertex_of c == v) ≡ b → cond b (vertex_after c (vertex_at (vertex_of c) graph)) (vertex_at v graph) ≡ None) [
      | true ↦ λ e. let is = eqb-true (vertex_of c) v e in ap (vertex_after c) (ap (λ w. vertex_at w graph) is ∙ none) ∙ not_made c is h
      | false ↦ λ e. none
    ] refl
  where
    not_made : (c : Change) → vertex_of c ≡ v → is_among v (made_vertices (c ∷ [])) ≡ false → vertex_after c None ≡ None
    not_made (change.New w p) is h = absurd (both_ways _ h (or_left _ _ (eq-eqb w v is)))
    not_made (change.Set w p) is h = refl
    not_made (change.Drop w) is h = refl
    not_made (change.Put w l d p) is h = refl
    not_made (change.Del w l d) is h = refl

pub none_made : (v : ℕ) (changes : List Change) (graph : List Vertex) → vertex_at v graph ≡ None → is_among v (made_vertices changes) ≡ false → vertex_at v (after changes graph) ≡ None
none_made v [] graph none h = none
none_made v (c ∷ changes) graph none h =
    let split : is_among v (made_vertices (c ∷ []) ++ made_vertices changes) ≡ false = ap (is_among v) (sym (made-append (c ∷ []) changes)) ∙ h in
    let parts = or_parts (is_among v (made_vertices (c ∷ []))) (is_among v (made_vertices changes)) (sym (among-append v (made_vertices (c ∷ [])) (made_vertices changes)) ∙ split) in
    none_made v changes (apply c graph) (none_after v c graph none parts.0) parts.1

made_until : (v e : ℕ) (records : List Record) → is_among v (made_vertices (all_changes records)) ≡ false → is_among v (made_vertices (changes_until e records)) ≡ false
made_until v e [] h = refl
made_until v e (r ∷ records) h =
    let split : is_among v (made_vertices r.changes ++ made_vertices (all_changes records)) ≡ false = ap (is_among v) (sym (made-append r.changes (all_changes records))) ∙ h in
    let parts = or_parts (is_among v (made_vertices r.changes)) (is_among v (made_vertices (all_changes records))) (sym (among-append v (made_vertices r.changes) (made_vertices (all_changes records))) ∙ split) in
    let rest = made_until v e records parts.1 in
    elim (nat_le r.epoch e) as (λ b. is_among v (made_vertices (flat_map (λ x. x.changes) (cond b (r ∷ filter (λ x. nat_le x.epoch e) records) (filter (λ x. nat_le x.epoch e) records)))) ≡ false) [
      | true ↦ ap (is_among v) (made-append r.changes (changes_until e records)) ∙ among-append v (made_vertices r.changes) (made_vertices (changes_until e records)) ∙ or_from _ _ parts.0 rest
      | false ↦ rest
    ]

-- ---- the invariant

abbrev pub OpenHolds : Base → List Record → List ℕ → ℕ → Option Trace → Type 0
OpenHolds base records given next None = Unit {0}
OpenHolds base records given next (Some t) = IsOpen base records given next t

abbrev pub ApartHolds : Option Trace → Option Trace → Type 0
ApartHolds None u = Unit {0}
ApartHolds (Some t) None = Unit {0}
ApartHolds (Some t) (Some u) = AreApart t u

abbrev pub next_of : Base → List Replied → ℕ
next_of base lines = base.next_tid + length (begun_numbers lines)

-- what is true of the records
pub record RecordsStand (base : Base) (records : List Record) (given : List ℕ) : Type 0 where
  pub made_given : (v : ℕ) → is_among v (made_vertices (all_changes records)) ≡ true → is_among v given ≡ true
  pub made_once : all_differ (made_vertices (all_changes records)) ≡ true
  pub fit : each_step fits_at (all_changes records) base.graph ≡ true
  pub within : each_step keeps_lists (all_changes records) base.graph ≡ true
  pub records_apart : apart records ≡ true

pub record AllStand (base : Base) (lines : List Replied) : Type 0 where
  pub opens : (s : ℕ) → OpenHolds base (committed_records lines) (given_vertices lines) (next_of base lines) (open_trace 0 s lines)
  pub sessions_apart : (s u : ℕ) → (s == u) ≡ false → ApartHolds (open_trace 0 s lines) (open_trace 0 u lines)
  pub records : RecordsStand base (committed_records lines) (given_vertices lines)

-- ---- no other session has taken a vertex that a line may take

other_or_none : (base : Base) (a : Replied) (v : ℕ) (t : Trace) (lines xs : List Replied) → a.phase ≡ 0 → a.worker ≡ 0 → EachHoldsWhenGiven base xs →
    list_any (λ b. same_worker b a && is_taken_by_other v t (open_trace b.phase b.session lines)) xs ≡ false → (s : ℕ) →
    (open_trace 0 s xs ≡ None) ⊎ (is_taken_by_other v t (open_trace 0 s lines) ≡ false)
other_or_none base a v t lines [] p w served h s = inl refl
other_or_none base a v t lines (b ∷ xs) p w served h s =
    let parts = or_parts (same_worker b a && is_taken_by_other v t (open_trace b.phase b.session lines)) (list_any (λ c. same_worker c a && is_taken_by_other v t (open_trace c.phase c.session lines)) xs) h in
    let bp = served.0.phase in
    let together : same_worker b a ≡ true = and_from _ _ (eq-eqb b.phase a.phase (bp ∙ sym p)) (eq-eqb b.worker a.worker (served.0.worker ∙ sym w)) in
    elim (b.session == s) as (λ x. (b.session == s) ≡ x → (open_trace 0 s (b ∷ xs) ≡ None) ⊎ (is_taken_by_other v t (open_trace 0 s lines) ≡ false)) [
      | true ↦ λ e.
          let free : is_taken_by_other v t (open_trace b.phase b.session lines) ≡ false = subst (λ y. (y && is_taken_by_other v t (open_trace b.phase b.session lines)) ≡ false) together parts.0 in
          inr (subst (λ n. is_taken_by_other v t (open_trace 0 n lines) ≡ false) (eqb-true b.session s e) (subst (λ n. is_taken_by_other v t (open_trace n b.session lines) ≡ false) bp free))
      | false ↦ λ e.
          let skipped : open_trace 0 s (b ∷ xs) ≡ open_trace 0 s xs = ap (λ y. cond y (trace_after b.request b.reply (open_trace 0 s xs)) (open_trace 0 s xs)) (and_right (b.phase == 0) (b.session == s) e) in
          elim (other_or_none base a v t lines xs p w served.1 parts.1 s) [ inl n ↦ inl (skipped ∙ n) | inr f ↦ inr f ]
    ] refl

pub not_taken : (base : Base) (a : Replied) (v : ℕ) (t : Trace) (lines : List Replied) → a.phase ≡ 0 → a.worker ≡ 0 → EachHoldsWhenGiven base lines →
    is_blocked t a lines v ≡ false → (s : ℕ) → is_taken_by_other v t (open_trace 0 s lines) ≡ false
not_taken base a v t lines p w served h s =
    elim (other_or_none base a v t lines lines p w served h s) [ inl n ↦ ap (is_taken_by_other v t) n | inr f ↦ f ]

-- no record since the snapshot changed a vertex that a line may take
pub not_changed : (base : Base) (t : Trace) (above : List Replied) (v : ℕ) → list_any (λ r. nat_lt t.read r.epoch && changes_vertex v r && has_committed r.tid above) (committed_records above) ≡ false →
    list_any (λ r. nat_lt t.read r.epoch && changes_vertex v r) (committed_records above) ≡ false
not_changed base t above v h =
    weaker (λ r. nat_lt t.read r.epoch && changes_vertex v r) (committed_records above) (all_known above (committed_records above) (each_among [] (committed_records above))) h
  where
    weaker : (p : Record → Bool) (records : List Record) → list_all (λ r. has_committed r.tid above) records ≡ true → list_any (λ r. p r && has_committed r.tid above) records ≡ false → list_any p records ≡ false
    weaker p [] k h = refl
    weaker p (r ∷ records) k h =
        let known = and_parts (has_committed r.tid above) (list_all (λ x. has_committed x.tid above) records) k in
        let parts = or_parts (p r && has_committed r.tid above) (list_any (λ x. p x && has_committed x.tid above) records) h in
        or_from _ _ (left (p r) _ known.0 parts.0) (weaker p records known.1 parts.1)
      where
        left : (x y : Bool) → y ≡ true → (x && y) ≡ false → x ≡ false
        left true y e f = absurd (both_ways y f e)
        left false y e f = refl

-- ---- a record more

epochs_below : (n e : ℕ) (records : List Record) → n < e → epochs_at_most n records ≡ true → list_all (λ s. nat_lt s.epoch e) records ≡ true
epochs_below n e [] lt h = refl
epochs_below n e (r ∷ records) lt h =
    let parts = and_parts (nat_le r.epoch n) (epochs_at_most n records) h in
    let le = leb-true r.epoch n parts.0 in
    and_from _ _ (lt-ltb r.epoch e (omega (arith, le, lt))) (epochs_below n e records lt parts.1)

-- a change that was made touches a vertex that was taken
changed_took : (v : ℕ) (took : List ℕ) (changes : List Change) → list_all (λ c. is_among (vertex_of c) took) changes ≡ true → list_any (λ c. vertex_of c == v) changes ≡ true → is_among v took ≡ true
changed_took v took changes all h =
    elim (cases_Bool (is_among v took)) [ inl t ↦ t | inr f ↦ absurd (both_ways _ (untouched v took changes all f) h) ]

recorded_more : (base : Base) (records : List Record) (given : List ℕ) (next : ℕ) (t : Trace) (n e : ℕ) → RecordsStand base records given → IsOpen base records given next t →
    epochs_at_most n records ≡ true → n < e → RecordsStand base (records ++ record_in t e ∷ []) given
recorded_more base records given next t n e stand o known lt =
    let push = all_changes-push records (record_in t e) in
    let made : made_vertices (all_changes (records ++ record_in t e ∷ [])) ≡ made_vertices (all_changes records) ++ made_vertices t.own
    = ap made_vertices push ∙ made-append (all_changes records) t.own in
    let agree : (v : ℕ) → is_among v t.took ≡ true → vertex_at v (after (all_changes records) base.graph) ≡ vertex_at v (at base.graph records t.read)
    = λ v h. at-newest v t.read records base.graph base.graph (o.current v h) refl in
    let go : (p : Change → Option Vertex → Bool) → each_step p (all_changes records) base.graph ≡ true → each_step p t.own (at base.graph records t.read) ≡ true →
    each_step p (all_changes (records ++ record_in t e ∷ [])) base.graph ≡ true
    = λ p h own. ap (λ cs. each_step p cs base.graph) push ∙ each_step-append p (all_changes records) t.own base.graph
    ∙ and_from _ _ h (each_step-same p (λ v. is_among v t.took) t.own (after (all_changes records) base.graph) (at base.graph records t.read) agree o.touched ∙ own) in
    record {
      made_given = λ v h. elim (or_cases (is_among v (made_vertices (all_changes records))) (is_among v (made_vertices t.own)) (sym (ap (is_among v) made ∙ among-append v (made_vertices (all_changes records)) (made_vertices t.own)) ∙ h)) [
        | inl old ↦ stand.made_given v old
        | inr own ↦ o.made_given v own
      ];
      made_once = ap all_differ made ∙ differ-append (made_vertices (all_changes records)) (made_vertices t.own) stand.made_once o.made_differ
          (λ v h. false_from_ne_true _ (λ m. both_ways _ (o.made_new v m) h));
      fit = go fits_at stand.fit o.fit;
      within = go keeps_lists stand.within o.within;
      records_apart = apart-push records (record_in t e) stand.records_apart
          (apart_last (record_in t e) records (epochs_below n e records lt known) (λ v h. o.current v (changed_took v t.took t.own o.touched h)));
    }

given_more : (base : Base) (records : List Record) (given more : List ℕ) → RecordsStand base records given → RecordsStand base records (more ++ given)
given_more base records given more h = record {
  made_given = λ v m. among-append v more given ∙ or_right _ _ (h.made_given v m);
  made_once = h.made_once;
  fit = h.fit;
  within = h.within;
  records_apart = h.records_apart;
}

-- ---- one line more

records_next : (base : Base) (above : List Replied) (q : Request) (r : Reply) (t : Option Trace) → RecordsStand base (committed_records above) (given_vertices above) →
    OpenHolds base (committed_records above) (given_vertices above) (next_of base above) t → NumberHolds base above q r → epochs_at_most (epoch_of base above) (committed_records above) ≡ true →
    RecordsStand base (committed_records above ++ record_at r t) (given_vertex r ++ given_vertices above)
records_next base above q (reply.Committed e) (Some t) stand o num known =
    recorded_more base (committed_records above) (given_vertices above) (next_of base above) t (epoch_of base above) e stand o known (omega (arith, num))
records_next base above q (reply.Committed e) None stand o num known = rw append-nil stand
records_next base above q r t stand o num known = rw append-nil (given_more base (committed_records above) (given_vertices above) (given_vertex r) stand)

-- another session's transaction
other_next : (base : Base) (above : List Replied) (q : Request) (r : Reply) (t x : Option Trace) → OpenHolds base (committed_records above) (given_vertices above) (next_of base above) x →
    OpenHolds base (committed_records above) (given_vertices above) (next_of base above) t → ApartHolds x t → ReadAtMost (epoch_of base above) x → NumberHolds base above q r →
    OpenHolds base (committed_records above ++ record_at r t) (given_vertex r ++ given_vertices above) (base.next_tid + length (begun_number r ++ begun_numbers above)) x
other_next base above q r t None o by apart read num = tt
other_next base above q (reply.Committed e) (Some t) (Some x) o by apart read num =
    open-recorded base (committed_records above) (given_vertices above) (next_of base above) t x e o by apart (omega (arith, read, num))
other_next base above q r t (Some x) o by apart read num =
    let more = more_begun r (begun_numbers above) in
    rw append-nil (open-kept base (committed_records above) (given_vertices above) (given_vertex r) (next_of base above) (base.next_tid + length (begun_number r ++ begun_numbers above)) x (omega (arith, more)) o)

fresh_given : (base : Base) (above : List Replied) (q : Request) (r : Reply) → NumberHolds base above q r → (v : ℕ) → is_among v (given_vertex r) ≡ true → is_among v (given_vertices above) ≡ false
fresh_given base above q (reply.Vertex w) num v h =
    elim (or_cases (w == v) false h) [ inl e ↦ subst (λ x. is_among x (given_vertices above) ≡ false) (eqb-true w v e) (none_above w (given_vertices above) num.1) | inr e ↦ absurd (false≢true e) ]
fresh_given base above q r num v h = absurd (false≢true h)

first_of_list : List ℕ → ℕ
first_of_list [] = 0
first_of_list (x ∷ xs) = x

-- what is told of a new vertex: it is nowhere in the snapshot with own changes
new_absent : (base : Base) (above : List Replied) (q : Request) (r : Reply) (t : Trace) → IsGood base → RecordsStand base (committed_records above) (given_vertices above) →
    IsOpen base (committed_records above) (given_vertices above) (next_of base above) t → NumberHolds base above q r → (v : ℕ) → given_vertex r ≡ v ∷ [] →
    is_none (vertex_at v (after t.own (at base.graph (committed_records above) t.read))) ≡ true
unfolding first_of_list
new_absent base above q (reply.Vertex w) t good stand o num v e =
    let is : w ≡ v = ap first_of_list e in
    let high : base.next_vertex ≤ v = omega (arith, is, num.0) in
    let unknown : is_among v (given_vertices above) ≡ false = subst (λ x. is_among x (given_vertices above) ≡ false) is (none_above w (given_vertices above) num.1) in
    let base_none = find_none v base.next_vertex base.graph high good.vertices in
    let recorded_none : is_among v (made_vertices (all_changes (committed_records above))) ≡ false = false_from_ne_true _ (λ m. both_ways _ unknown (stand.made_given v m)) in
    let own_none : is_among v (made_vertices t.own) ≡ false = false_from_ne_true _ (λ m. both_ways _ unknown (o.made_given v m)) in
    ap is_none (none_made v t.own (at base.graph (committed_records above) t.read) (none_made v (changes_until t.read (committed_records above)) base.graph base_none (made_until v t.read (committed_records above) recorded_none)) own_none)
new_absent base above q r t good stand o num v e = absurd (let n : 0 ≡ 1 = ap length e in omega (arith, n))

-- the session's own transaction
grown_next : (base : Base) (a : Replied) (above : List Replied) (q : Request) (r : Reply) (t : Trace) → IsGood base → is_in_kind (Some t) q r ≡ true → is_ending r ≡ false → record_at r (Some t) ≡ [] → begun_number r ≡ [] →
    RecordsStand base (committed_records above) (given_vertices above) → IsOpen base (committed_records above) (given_vertices above) (next_of base above) t →
    NumberHolds base above q r → HoldsIn (RunWith base above a r (Some t)) (Some t) a above q r → has_fit_destination q ≡ true →
    keeps_within (RunWith base above a r (Some t)) (Some t) q r ≡ true →
    IsOpen base (committed_records above ++ record_at r (Some t)) (given_vertex r ++ given_vertices above) (base.next_tid + length (begun_number r ++ begun_numbers above)) (grown q r t)
grown_next base a above q r t good k e none unbegun stand o num holds destination within =
    let run = RunWith base above a r (Some t) in
    let same : committed_records above ++ record_at r (Some t) ≡ committed_records above = ap (λ xs. committed_records above ++ xs) none ∙ append-nil (committed_records above) in
    let opened : IsOpen base run.records (given_vertices above) (next_of base above) t = subst (λ rs. IsOpen base rs (given_vertices above) (next_of base above) t) (sym same) o in
    let absent : (v : ℕ) → given_vertex r ≡ v ∷ [] → is_none (here run t v) ≡ true
    = λ v g. ap (λ rs. is_none (vertex_at v (after t.own (at base.graph rs t.read)))) same ∙ new_absent base above q r t good stand o num v g in
    let adding = adds run t a above q r k e holds destination o.room absent in
    let current : (v : ℕ) → MayTakeVertex run t a above v → list_any (λ s. nat_lt t.read s.epoch && changes_vertex v s) run.records ≡ false
    = λ v h. ap (list_any (λ s. nat_lt t.read s.epoch && changes_vertex v s)) same
    ∙ not_changed base t above v (sym (ap (list_any (λ s. nat_lt t.read s.epoch && changes_vertex v s && has_committed s.tid above)) same) ∙ h.current) in
    let recorded : (v : ℕ) → is_among v (made_vertices (all_changes run.records)) ≡ true → is_among v (given_vertices above) ≡ true
    = λ v h. stand.made_given v (sym (ap (λ rs. is_among v (made_vertices (all_changes rs))) same) ∙ h) in
    let next : next_of base above ≡ base.next_tid + length (begun_number r ++ begun_numbers above) = ap (λ xs. base.next_tid + length (xs ++ begun_numbers above)) (sym unbegun) in
    subst (λ n. IsOpen base run.records (given_vertex r ++ given_vertices above) n (grown q r t)) next
    (open-grown base run (given_vertices above) (next_of base above) t a above q r refl opened adding current within (fresh_given base above q r num) recorded)

fresh_open : (base : Base) (records : List Record) (given : List ℕ) (next n e : ℕ) → n < next → base.next_tid ≤ n → n < number_end → base.epoch ≤ e → IsOpen base records given next (fresh n e)
fresh_open base records given next n e lt first end from = record {
  begun = lt;
  first = first;
  end = end;
  from = from;
  room = lit≤ tt;
  destinations = refl;
  touched = refl;
  current = λ v h. absurd (false≢true h);
  fit = refl;
  within = refl;
  made_differ = refl;
  made_given = λ v h. absurd (false≢true h);
  made_new = λ v h. absurd (false≢true h);
}

own_next : (base : Base) (a : Replied) (above : List Replied) (q : Request) (r : Reply) (t : Option Trace) → IsGood base → is_in_kind t q r ≡ true →
    RecordsStand base (committed_records above) (given_vertices above) → OpenHolds base (committed_records above) (given_vertices above) (next_of base above) t →
    base.epoch ≤ epoch_of base above →
    NumberHolds base above q r → HoldsIn (RunWith base above a r t) t a above q r → has_fit_destination q ≡ true →
    keeps_within (RunWith base above a r t) t q r ≡ true →
    OpenHolds base (committed_records above ++ record_at r t) (given_vertex r ++ given_vertices above) (base.next_tid + length (begun_number r ++ begun_numbers above)) (trace_after q r t)
own_next base a above q (reply.Begun n e) t good k stand o from num holds d w =
    fresh_open base (committed_records above ++ []) (given_vertices above) (base.next_tid + length (n ∷ begun_numbers above)) n e (omega (arith, num.0)) (omega (arith, num.0)) num.1 (omega (arith, num.2, from))
own_next base a above q (reply.Committed e) (Some t) good k stand o from num holds d w = tt
own_next base a above q reply.Ended (Some t) good k stand o from num holds d w = tt
own_next base a above q reply.Aborted (Some t) good k stand o from num holds d w = tt
own_next base a above q (reply.Conflict v e) (Some t) good k stand o from num holds d w = tt
own_next base a above q (reply.Held v n) (Some t) good k stand o from num holds d w = tt
own_next base a above q (reply.LogFault m n) (Some t) good k stand o from num holds d w = tt
own_next base a above q r None good k stand o from num holds d w = tt
own_next base a above q r (Some t) good k stand o from num holds d w = grown_next base a above q r t good k refl refl refl stand o num holds d w

-- ---- the sessions stay apart

pub apart-sym : (t u : Option Trace) → ApartHolds t u → ApartHolds u t
apart-sym None None h = tt
apart-sym None (Some u) h = tt
apart-sym (Some t) None h = tt
apart-sym (Some t) (Some u) h = record {
  numbers = ne_eqb u.number t.number (λ e. eqb-false t.number u.number h.numbers (sym e));
  took = λ v m. false_from_ne_true _ (λ n. both_ways _ (h.took v n) m);
}

grown_apart : (run : Run) (a : Replied) (above : List Replied) (q : Request) (r : Reply) (t x : Trace) → AreApart t x →
    ((v : ℕ) → is_among v (taken_at q r) ≡ true → is_taken_by_other v t (Some x) ≡ false) → AreApart (grown q r t) x
grown_apart run a above q r t x apart free = record {
  numbers = apart.numbers;
  took = λ v h. elim (or_cases (is_among v t.took) (is_among v (taken_at q r)) (sym (among-append v t.took (taken_at q r)) ∙ h)) [
    | inl old ↦ apart.took v old
    | inr now ↦
        let other : (x.number == t.number) ≡ false = ne_eqb x.number t.number (λ e. eqb-false t.number x.number apart.numbers (sym e)) in
        subst (λ b. (not b && is_among v x.took) ≡ false) other (free v now)
  ];
}

own_apart : (base : Base) (a : Replied) (above : List Replied) (q : Request) (r : Reply) (t x : Option Trace) → is_in_kind t q r ≡ true → ApartHolds t x →
    OpenHolds base (committed_records above) (given_vertices above) (next_of base above) x → NumberHolds base above q r →
    ((u : Trace) → t ≡ Some u → (v : ℕ) → is_among v (taken_at q r) ≡ true → is_taken_by_other v u x ≡ false) → ApartHolds (trace_after q r t) x
own_apart base a above q (reply.Begun n e) t None k apart o num free = tt
own_apart base a above q (reply.Begun n e) t (Some x) k apart o num free = record {
  numbers = ne_eqb n x.number (λ i. omega (arith, i, num.0, o.begun));
  took = λ v h. absurd (false≢true h);
}
own_apart base a above q (reply.Committed e) (Some t) x k apart o num free = tt
own_apart base a above q reply.Ended (Some t) x k apart o num free = tt
own_apart base a above q reply.Aborted (Some t) x k apart o num free = tt
own_apart base a above q (reply.Conflict v e) (Some t) x k apart o num free = tt
own_apart base a above q (reply.Held v n) (Some t) x k apart o num free = tt
own_apart base a above q (reply.LogFault m n) (Some t) x k apart o num free = tt
own_apart base a above q r None x k apart o num free = tt
own_apart base a above q r (Some t) None k apart o num free = tt
own_apart base a above q r (Some t) (Some x) k apart o num free = grown_apart (so_far base above) a above q r t x apart (free t refl)

-- ---- the step

ending_not_taking : (r : Reply) → is_ending r ≡ true → is_taking r ≡ false
ending_not_taking (reply.Committed e) h = refl
ending_not_taking reply.Ended h = refl
ending_not_taking reply.Aborted h = refl
ending_not_taking (reply.Conflict v e) h = refl
ending_not_taking (reply.Held v n) h = refl
ending_not_taking (reply.LogFault m n) h = refl
ending_not_taking r h = absurd (false≢true h)

ending_takes_none : (q : Request) (r : Reply) → is_ending r ≡ true → taken_at q r ≡ []
ending_takes_none (request.Vertex p) (reply.Vertex v) h = absurd (false≢true h)
ending_takes_none q r h = ap (λ b. cond b (named_for_change q) []) (ending_not_taking r h)

-- what a line takes, no other session had taken
line_free : (base : Base) (a : Replied) (above : List Replied) (q : Request) (r : Reply) (t : Trace) → IsGood base → a.phase ≡ 0 → a.worker ≡ 0 → EachHoldsWhenGiven base above → is_in_kind (Some t) q r ≡ true →
    RecordsStand base (committed_records above) (given_vertices above) → IsOpen base (committed_records above) (given_vertices above) (next_of base above) t →
    NumberHolds base above q r → HoldsIn (RunWith base above a r (Some t)) (Some t) a above q r → has_fit_destination q ≡ true → record_at r (Some t) ≡ [] →
    is_ending r ≡ false → (v : ℕ) → is_among v (taken_at q r) ≡ true → (s : ℕ) → is_taken_by_other v t (open_trace 0 s above) ≡ false
line_free base a above q r t good p w served k stand o num holds destination none e v h s =
    let same : committed_records above ++ record_at r (Some t) ≡ committed_records above = ap (λ xs. committed_records above ++ xs) none ∙ append-nil (committed_records above) in
    let absent : (n : ℕ) → given_vertex r ≡ n ∷ [] → is_none (here (RunWith base above a r (Some t)) t n) ≡ true
    = λ n g. ap (λ rs. is_none (vertex_at n (after t.own (at base.graph rs t.read)))) same ∙ new_absent base above q r t good stand o num n g in
    let adding = adds (RunWith base above a r (Some t)) t a above q r k e holds destination o.room absent in
    not_taken base a v t above p w served (adding.lock v h).free s

not_ending_record : (r : Reply) (t : Option Trace) → is_ending r ≡ false → record_at r t ≡ []
not_ending_record (reply.Committed e) t h = absurd (false≢true (sym h))
not_ending_record r t h = refl

module _ (base : Base) (a : Replied) (above : List Replied) (good : IsGood base) (served : EachHoldsWhenGiven base (a ∷ above)) (stand : AllStand base above) where
  abbrev t : Option Trace
  t = trace_of a above

  same_t : open_trace 0 a.session above ≡ t
  same_t = ap (λ n. open_trace n a.session above) (sym served.0.phase)

  -- the session's own transaction goes on, and each other one stays
  pub moved : (s : ℕ) → (a.session == s) ≡ true → (open_trace 0 s above ≡ t) × (open_trace 0 s (a ∷ above) ≡ trace_after a.request a.reply t)
  moved s e =
      let own : open_trace 0 s above ≡ t = ap (λ n. open_trace 0 n above) (sym (eqb-true a.session s e)) ∙ same_t in (
        own,
        ap (λ b. cond b (trace_after a.request a.reply (open_trace 0 s above)) (open_trace 0 s above)) (and_from (a.phase == 0) (a.session == s) (eq-eqb a.phase 0 served.0.phase) e)
            ∙ ap (trace_after a.request a.reply) own,
      )

  pub kept : (s : ℕ) → (a.session == s) ≡ false → open_trace 0 s (a ∷ above) ≡ open_trace 0 s above
  kept s e = ap (λ b. cond b (trace_after a.request a.reply (open_trace 0 s above)) (open_trace 0 s above)) (and_right (a.phase == 0) (a.session == s) e)

  known : epochs_at_most (epoch_of base above) (committed_records above) ≡ true
  known = epochs-one base above served.1

  own : OpenHolds base (committed_records above) (given_vertices above) (next_of base above) t
  own = subst (λ x. OpenHolds base (committed_records above) (given_vertices above) (next_of base above) x) same_t (stand.opens a.session)

  holds : HoldsIn (RunWith base above a a.reply t) t a above a.request a.reply
  holds = subst (λ b. HoldsIn (RunWith base above a a.reply t) t a b a.request a.reply) (before-one base a above served.0.phase served.0.worker served.1) served.0.holds

  pub apart_from_own : (s : ℕ) → (a.session == s) ≡ false → ApartHolds t (open_trace 0 s above)
  apart_from_own s e = subst (λ x. ApartHolds x (open_trace 0 s above)) same_t (stand.sessions_apart a.session s e)

  opens : (s : ℕ) → OpenHolds base (committed_records (a ∷ above)) (given_vertices (a ∷ above)) (next_of base (a ∷ above)) (open_trace 0 s (a ∷ above))
  opens s = elim (cases_Bool (a.session == s)) [
    | inl e ↦ subst (λ x. OpenHolds base (committed_records (a ∷ above)) (given_vertices (a ∷ above)) (next_of base (a ∷ above)) x) (sym (moved s e).1)
        (own_next base a above a.request a.reply t good served.0.kind stand.records own (base_epoch-one base above served.1) served.0.number holds served.0.destination served.0.within)
    | inr e ↦ subst (λ x. OpenHolds base (committed_records (a ∷ above)) (given_vertices (a ∷ above)) (next_of base (a ∷ above)) x) (sym (kept s e))
        (other_next base above a.request a.reply t (open_trace 0 s above) (stand.opens s) own (apart-sym t (open_trace 0 s above) (apart_from_own s e)) (read-at-most base 0 s above served.1) served.0.number)
  ]

  free : (s : ℕ) (u : Trace) → t ≡ Some u → (v : ℕ) → is_among v (taken_at a.request a.reply) ≡ true → is_taken_by_other v u (open_trace 0 s above) ≡ false
  free s u is v h = elim (cases_Bool (is_ending a.reply)) [
    | inl e ↦ absurd (false≢true (subst (λ xs. is_among v xs ≡ true) (ending_takes_none a.request a.reply e) h))
    | inr e ↦ line_free base a above a.request a.reply u good served.0.phase served.0.worker served.1
        (subst (λ x. is_in_kind x a.request a.reply ≡ true) is served.0.kind) stand.records
        (subst (λ x. OpenHolds base (committed_records above) (given_vertices above) (next_of base above) x) is own)
        served.0.number
        (subst (λ x. HoldsIn (RunWith base above a a.reply x) x a above a.request a.reply) is holds) served.0.destination (not_ending_record a.reply (Some u) e) e v h s
  ]

  own_to : (s : ℕ) → (a.session == s) ≡ false → ApartHolds (trace_after a.request a.reply t) (open_trace 0 s above)
  own_to s e = own_apart base a above a.request a.reply t (open_trace 0 s above) served.0.kind (apart_from_own s e) (stand.opens s) served.0.number (free s)

  sessions : (s u : ℕ) → (s == u) ≡ false → ApartHolds (open_trace 0 s (a ∷ above)) (open_trace 0 u (a ∷ above))
  sessions s u ne = elim (cases_Bool (a.session == s)) [
    | inl e ↦
        let other : (a.session == u) ≡ false = subst (λ n. (n == u) ≡ false) (sym (eqb-true a.session s e)) ne in
        subst (λ x. ApartHolds x (open_trace 0 u (a ∷ above))) (sym (moved s e).1) (subst (λ x. ApartHolds (trace_after a.request a.reply t) x) (sym (kept u other)) (own_to u other))
    | inr e ↦ elim (cases_Bool (a.session == u)) [
      | inl f ↦ subst (λ x. ApartHolds x (open_trace 0 u (a ∷ above))) (sym (kept s e)) (subst (λ x. ApartHolds (open_trace 0 s above) x) (sym (moved u f).1) (apart-sym (trace_after a.request a.reply t) (open_trace 0 s above) (own_to s e)))
      | inr f ↦ subst (λ x. ApartHolds x (open_trace 0 u (a ∷ above))) (sym (kept s e)) (subst (λ x. ApartHolds (open_trace 0 s above) x) (sym (kept u f)) (stand.sessions_apart s u ne))
    ]
  ]

  -- a line keeps the invariant
  pub stands-next : AllStand base (a ∷ above)
  stands-next = record { opens = opens; sessions_apart = sessions; records = records_next base above a.request a.reply t stand.records own served.0.number known }

pub stands-one : (base : Base) (lines : List Replied) → IsGood base → EachHoldsWhenGiven base lines → AllStand base lines
stands-one base [] good served = record {
  opens = λ s. tt;
  sessions_apart = λ s u ne. tt;
  records = record { made_given = λ v h. absurd (false≢true h); made_once = refl; fit = refl; within = refl; records_apart = refl };
}
stands-one base (a ∷ above) good served = stands-next base a above good served (stands-one base above good served.1)
