-- One worker: what is true of the transactions that are open. With it, their records may follow the base.
use Rattle.std.proofs.Common.{◌≡◌, ℕ, ◌+◌, ◌<◌, ◌≤◌, Bool, true, false, not, cond, ◌&&◌, ◌||◌, List, [], ◌∷◌, ◌++◌, refl, sym, ap, ◌∙◌, subst, inl, inr, arith, append-nil, zero-add}
use Rattle.std.specs.Prelude.{◌==◌, nat_lt, nat_le, Some, is_none}
use Rattle.std.specs.List.{list_any, list_all}
use Rattle.std.proofs.lemmas.Bool.{both_ways, false≢true, ltb-true, lt-ltb, lt-leb, and_parts, and_from, or_parts, or_cases, or_from, or_left, or_right, and_right, not-true, not_from_false, eqb-true, eq-eqb, false_from_ne_true, ne_eqb}
use Rattle.std.proofs.lemmas.List.Folds.{list_any-append, list_all-append}
use Rattle.std.proofs.lemmas.List.Sums.{sum_by-append}
use Rattle.graph_model.specs.declared.record.Record.{Record}
use Rattle.graph_model.specs.declared.graph.Base.{Base}
use Rattle.graph_model.specs.declared.change.Change.{Change}
use Rattle.graph_model.specs.declared.change.Change.TheVariants as change
use Rattle.graph_model.specs.Change.{vertex_of, encoded_len, encoded_lens}
use Rattle.graph_model.specs.Graph.{at, after, each_step, fits_at}
use Rattle.graph_model.specs.Records.{changes_vertex, overlap, share_vertex, keep_apart, apart, all_differ, made_vertices, all_changes, has_destination, transaction_most, number_end}
use Rattle.std.proofs.lemmas.Grind.{flat_map-append}
use Rattle.graph_legal.proofs.Growing.{at-later}
use Rattle.graph_model.proofs.Vertices.{each_step-append}
use Rattle.request_text.specs.declared.request.Request.{Request}
use Rattle.request_text.specs.declared.request.Request.TheVariants as request
use Rattle.request_text.specs.declared.reply.Reply.{Reply}
use Rattle.request_text.specs.declared.reply.Reply.TheVariants as reply
use Rattle.graph_legal.specs.Lines.{Replied}
use Rattle.graph_legal.specs.Traces.{Trace, noted_at, taken_at, grown, is_among, is_ending, is_taking}
use Rattle.graph_legal.specs.Kinds.{is_in_kind}
use Rattle.graph_legal.specs.TraceOk.{Run, HoldsIn, MayTakeVertex, here}
use Rattle.graph_legal.specs.Legal.{given_vertex}
use Rattle.graph_legal.specs.OneWorker.{record_in, keeps_lists, has_fit_destination}

-- ---- what a reply in a transaction says of the change that it notes and the vertex that it takes

pub among-append : (v : ℕ) (xs ys : List ℕ) → is_among v (xs ++ ys) ≡ (is_among v xs || is_among v ys)
among-append v xs ys = list_any-append (λ x. x == v) xs ys

lens-push : (own : List Change) (c : Change) → encoded_lens (own ++ c ∷ []) ≡ encoded_lens own + encoded_len c
lens-push own c = sum_by-append encoded_len own (c ∷ []) ∙ ap (λ n. encoded_lens own + n) (zero-add (encoded_len c))

only : (v w : ℕ) → is_among w (v ∷ []) ≡ true → v ≡ w
only v w h = elim (or_cases (v == w) false h) [ inl e ↦ eqb-true v w e | inr e ↦ absurd (false≢true e) ]

self_among : (v : ℕ) → is_among v (v ∷ []) ≡ true
self_among v = or_left _ _ (eq-eqb v v refl)

-- What a line of transaction t adds to it.
pub record Adds (run : Run) (t : Trace) (a : Replied) (before : List Replied) (q : Request) (r : Reply) : Type 0 where
  pub room : encoded_lens (t.own ++ noted_at q r) ≤ transaction_most
  pub destinations : list_all has_destination (noted_at q r) ≡ true
  pub fit : each_step fits_at (noted_at q r) (after t.own (at run.graph run.records t.read)) ≡ true
  pub touched : list_all (λ c. is_among (vertex_of c) (taken_at q r)) (noted_at q r) ≡ true
  pub lock : (v : ℕ) → is_among v (taken_at q r) ≡ true → MayTakeVertex run t a before v
  pub made_given : (v : ℕ) → is_among v (made_vertices (noted_at q r)) ≡ true → is_among v (given_vertex r) ≡ true
  pub made_differ : all_differ (made_vertices (noted_at q r)) ≡ true

nothing_noted : (run : Run) (t : Trace) (a : Replied) (before : List Replied) (q : Request) (r : Reply) → noted_at q r ≡ [] → taken_at q r ≡ [] →
    encoded_lens t.own ≤ transaction_most → Adds run t a before q r
nothing_noted run t a before q r e f room = record {
  room = rw (e, append-nil) room;
  destinations = rw e refl;
  fit = rw e refl;
  touched = rw e refl;
  lock = λ v h. absurd (false≢true (rw f at h));
  made_given = λ v h. absurd (false≢true (rw e at h));
  made_differ = rw e refl;
}

-- a change of a vertex that is named, or of a vertex that is new
one_noted : (run : Run) (t : Trace) (a : Replied) (before : List Replied) (q : Request) (r : Reply) (c : Change) → noted_at q r ≡ c ∷ [] → taken_at q r ≡ vertex_of c ∷ [] →
    encoded_lens t.own + encoded_len c ≤ transaction_most → has_destination c ≡ true →
    fits_at c (here run t (vertex_of c)) ≡ true → MayTakeVertex run t a before (vertex_of c) →
    ((v : ℕ) → is_among v (made_vertices (c ∷ [])) ≡ true → is_among v (given_vertex r) ≡ true) → all_differ (made_vertices (c ∷ [])) ≡ true →
    Adds run t a before q r
one_noted run t a before q r c e f room destination fit lock given differ =
    let push = lens-push t.own c in
    record {
      room = rw e (omega (arith, push, room));
      destinations = rw e (and_from _ _ destination refl);
      fit = rw e (and_from _ _ fit refl);
      touched = rw (e, f) (and_from _ _ (self_among (vertex_of c)) refl);
      lock = λ v h. subst (λ w. MayTakeVertex run t a before w) (only (vertex_of c) v (rw f at h)) lock;
      made_given = λ v h. given v (rw e at h);
      made_differ = rw e differ;
    }

only_taken : (run : Run) (t : Trace) (a : Replied) (before : List Replied) (q : Request) (r : Reply) (v : ℕ) → noted_at q r ≡ [] → taken_at q r ≡ v ∷ [] →
    encoded_lens t.own ≤ transaction_most → MayTakeVertex run t a before v → Adds run t a before q r
only_taken run t a before q r v e f room lock = record {
  room = rw (e, append-nil) room;
  destinations = rw e refl;
  fit = rw e refl;
  touched = rw e refl;
  lock = λ w h. subst (λ x. MayTakeVertex run t a before x) (only v w (rw f at h)) lock;
  made_given = λ w h. absurd (false≢true (rw e at h));
  made_differ = rw e refl;
}

no_vertices : (r : Reply) (v : ℕ) → is_among v [] ≡ true → is_among v (given_vertex r) ≡ true
no_vertices r v h = absurd (false≢true h)

abbrev no_numbers : List ℕ
no_numbers = []

neither : (b : Bool) → cond b [] [] ≡ no_numbers
neither true = refl
neither false = refl

pub adds : (run : Run) (t : Trace) (a : Replied) (before : List Replied) (q : Request) (r : Reply) → is_in_kind (Some t) q r ≡ true → is_ending r ≡ false →
    HoldsIn run (Some t) a before q r → has_fit_destination q ≡ true → encoded_lens t.own ≤ transaction_most →
    ((v : ℕ) → given_vertex r ≡ v ∷ [] → is_none (here run t v) ≡ true) → Adds run t a before q r
adds run t a before (request.Vertex p) (reply.Vertex v) k e h d room new =
    one_noted run t a before (request.Vertex p) (reply.Vertex v) (change.New v p) refl refl h.1 refl (new v refl) h.0 (λ w g. g) refl
adds run t a before (request.Set v p) reply.SetDone k e h d room new =
    one_noted run t a before (request.Set v p) reply.SetDone (change.Set v p) refl refl h.room refl h.vertex h.lock (no_vertices reply.SetDone) refl
adds run t a before (request.Set v p) reply.Dropped k e h d room new = absurd (false≢true k)
adds run t a before (request.Set v p) reply.Added k e h d room new = absurd (false≢true k)
adds run t a before (request.Set v p) reply.Replaced k e h d room new = absurd (false≢true k)
adds run t a before (request.Set v p) reply.Gone k e h d room new = absurd (false≢true k)
adds run t a before (request.Set v p) reply.Absent k e h d room new = absurd (false≢true k)
adds run t a before (request.Set v p) reply.TxnFull k e h d room new = only_taken run t a before (request.Set v p) reply.TxnFull v refl refl room h.1
adds run t a before (request.Set v p) reply.LogFull k e h d room new = absurd (false≢true k)
adds run t a before (request.Drop v) reply.SetDone k e h d room new = absurd (false≢true k)
adds run t a before (request.Drop v) reply.Dropped k e h d room new =
    one_noted run t a before (request.Drop v) reply.Dropped (change.Drop v) refl refl h.room refl h.vertex h.lock (no_vertices reply.Dropped) refl
adds run t a before (request.Drop v) reply.Added k e h d room new = absurd (false≢true k)
adds run t a before (request.Drop v) reply.Replaced k e h d room new = absurd (false≢true k)
adds run t a before (request.Drop v) reply.Gone k e h d room new = absurd (false≢true k)
adds run t a before (request.Drop v) reply.Absent k e h d room new = absurd (false≢true k)
adds run t a before (request.Drop v) reply.TxnFull k e h d room new = only_taken run t a before (request.Drop v) reply.TxnFull v refl refl room h.1
adds run t a before (request.Drop v) reply.LogFull k e h d room new = absurd (false≢true k)
adds run t a before (request.Put v l n p) reply.SetDone k e h d room new = absurd (false≢true k)
adds run t a before (request.Put v l n p) reply.Dropped k e h d room new = absurd (false≢true k)
adds run t a before (request.Put v l n p) reply.Added k e h d room new =
    one_noted run t a before (request.Put v l n p) reply.Added (change.Put v l n p) refl refl h.0.room d h.0.vertex h.0.lock (no_vertices reply.Added) refl
adds run t a before (request.Put v l n p) reply.Replaced k e h d room new =
    one_noted run t a before (request.Put v l n p) reply.Replaced (change.Put v l n p) refl refl h.0.room d h.0.vertex h.0.lock (no_vertices reply.Replaced) refl
adds run t a before (request.Put v l n p) reply.Gone k e h d room new = absurd (false≢true k)
adds run t a before (request.Put v l n p) reply.Absent k e h d room new = absurd (false≢true k)
adds run t a before (request.Put v l n p) reply.TxnFull k e h d room new = only_taken run t a before (request.Put v l n p) reply.TxnFull v refl refl room h.1
adds run t a before (request.Put v l n p) reply.LogFull k e h d room new = only_taken run t a before (request.Put v l n p) reply.LogFull v refl refl room h.1
adds run t a before (request.Del v l n) reply.SetDone k e h d room new = absurd (false≢true k)
adds run t a before (request.Del v l n) reply.Dropped k e h d room new = absurd (false≢true k)
adds run t a before (request.Del v l n) reply.Added k e h d room new = absurd (false≢true k)
adds run t a before (request.Del v l n) reply.Replaced k e h d room new = absurd (false≢true k)
adds run t a before (request.Del v l n) reply.Gone k e h d room new =
    one_noted run t a before (request.Del v l n) reply.Gone (change.Del v l n) refl refl h.0.room d h.0.vertex h.0.lock (no_vertices reply.Gone) refl
adds run t a before (request.Del v l n) reply.Absent k e h d room new = only_taken run t a before (request.Del v l n) reply.Absent v refl refl room h.1
adds run t a before (request.Del v l n) reply.TxnFull k e h d room new = only_taken run t a before (request.Del v l n) reply.TxnFull v refl refl room h.1
adds run t a before (request.Del v l n) reply.LogFull k e h d room new = absurd (false≢true k)
adds run t a before q r k e h d room new = nothing_noted run t a before q r refl (neither (is_taking r)) room

-- ---- the transactions that are open

-- What is true of an open transaction, when these are the records, these vertices have been given and this is the next transaction number.
pub record IsOpen (base : Base) (records : List Record) (given : List ℕ) (next : ℕ) (t : Trace) : Type 0 where
  pub begun : t.number < next
  pub first : base.next_tid ≤ t.number
  pub end : t.number < number_end
  pub from : base.epoch ≤ t.read
  pub room : encoded_lens t.own ≤ transaction_most
  pub destinations : list_all has_destination t.own ≡ true
  pub touched : list_all (λ c. is_among (vertex_of c) t.took) t.own ≡ true
  -- since its snapshot nobody changed what it took
  pub current : (v : ℕ) → is_among v t.took ≡ true → list_any (λ r. nat_lt t.read r.epoch && changes_vertex v r) records ≡ false
  pub fit : each_step fits_at t.own (at base.graph records t.read) ≡ true
  pub within : each_step keeps_lists t.own (at base.graph records t.read) ≡ true
  pub made_differ : all_differ (made_vertices t.own) ≡ true
  pub made_given : (v : ℕ) → is_among v (made_vertices t.own) ≡ true → is_among v given ≡ true
  pub made_new : (v : ℕ) → is_among v (made_vertices t.own) ≡ true → is_among v (made_vertices (all_changes records)) ≡ false

touched_more : (more took : List ℕ) (changes : List Change) → list_all (λ c. is_among (vertex_of c) took) changes ≡ true → list_all (λ c. is_among (vertex_of c) (took ++ more)) changes ≡ true
touched_more more took [] h = refl
touched_more more took (c ∷ changes) h =
    let parts = and_parts (is_among (vertex_of c) took) (list_all (λ x. is_among (vertex_of x) took) changes) h in
    and_from _ _ (among-append (vertex_of c) took more ∙ or_left _ _ parts.0) (touched_more more took changes parts.1)

touched_left : (more took : List ℕ) (changes : List Change) → list_all (λ c. is_among (vertex_of c) took) changes ≡ true → list_all (λ c. is_among (vertex_of c) (more ++ took)) changes ≡ true
touched_left more took [] h = refl
touched_left more took (c ∷ changes) h =
    let parts = and_parts (is_among (vertex_of c) took) (list_all (λ x. is_among (vertex_of x) took) changes) h in
    and_from _ _ (among-append (vertex_of c) more took ∙ or_right _ _ parts.0) (touched_left more took changes parts.1)

pub made-append : (xs ys : List Change) → made_vertices (xs ++ ys) ≡ made_vertices xs ++ made_vertices ys
made-append [] ys = refl
made-append (change.New v p ∷ xs) ys = ap (λ vs. v ∷ vs) (made-append xs ys)
made-append (change.Set v p ∷ xs) ys = made-append xs ys
made-append (change.Drop v ∷ xs) ys = made-append xs ys
made-append (change.Put v l d p ∷ xs) ys = made-append xs ys
made-append (change.Del v l d ∷ xs) ys = made-append xs ys

-- lists without a common element, each with different ones, differ together
pub differ-append : (xs ys : List ℕ) → all_differ xs ≡ true → all_differ ys ≡ true → ((v : ℕ) → is_among v xs ≡ true → is_among v ys ≡ false) → all_differ (xs ++ ys) ≡ true
differ-append [] ys a b apart = b
differ-append (x ∷ xs) ys a b apart =
    let parts = and_parts (not (is_among x xs)) (all_differ xs) a in
    and_from _ _
    (not_from_false _ (among-append x xs ys ∙ or_from _ _ (not-true _ parts.0) (apart x (or_left _ _ (eq-eqb x x refl)))))
    (differ-append xs ys parts.1 b (λ v h. apart v (or_right _ _ h)))

-- an open transaction after one more of its lines, which gives only vertices that were not given before
pub open-grown : (base : Base) (run : Run) (given : List ℕ) (next : ℕ) (t : Trace) (a : Replied) (before : List Replied) (q : Request) (r : Reply) → run.graph ≡ base.graph →
    IsOpen base run.records given next t → Adds run t a before q r →
    ((v : ℕ) → MayTakeVertex run t a before v → list_any (λ s. nat_lt t.read s.epoch && changes_vertex v s) run.records ≡ false) →
    each_step keeps_lists (noted_at q r) (after t.own (at run.graph run.records t.read)) ≡ true →
    ((v : ℕ) → is_among v (given_vertex r) ≡ true → is_among v given ≡ false) →
    ((v : ℕ) → is_among v (made_vertices (all_changes run.records)) ≡ true → is_among v given ≡ true) →
    IsOpen base run.records (given_vertex r ++ given) next (grown q r t)
open-grown base run given next t a before q r same o x current within new recorded =
    let fit = rw same at x.fit in
    let inside = rw same at within in
    record {
      begun = o.begun;
      first = o.first;
      end = o.end;
      from = o.from;
      room = x.room;
      destinations = list_all-append has_destination t.own (noted_at q r) ∙ and_from _ _ o.destinations x.destinations;
      touched = list_all-append (λ c. is_among (vertex_of c) (t.took ++ taken_at q r)) t.own (noted_at q r)
          ∙ and_from _ _ (touched_more (taken_at q r) t.took t.own o.touched) (touched_left t.took (taken_at q r) (noted_at q r) x.touched);
      current = λ v h. elim (or_cases (is_among v t.took) (is_among v (taken_at q r)) (sym (among-append v t.took (taken_at q r)) ∙ h)) [
        | inl old ↦ o.current v old
        | inr now ↦ current v (x.lock v now)
      ];
      fit = each_step-append fits_at t.own (noted_at q r) (at base.graph run.records t.read) ∙ and_from _ _ o.fit fit;
      within = each_step-append keeps_lists t.own (noted_at q r) (at base.graph run.records t.read) ∙ and_from _ _ o.within inside;
      made_differ = rw (made-append t.own (noted_at q r)) (differ-append (made_vertices t.own) (made_vertices (noted_at q r)) o.made_differ x.made_differ
          (λ v h. false_from_ne_true _ (λ n. both_ways _ (new v (x.made_given v n)) (o.made_given v h))));
      made_given = λ v h. elim (or_cases (is_among v (made_vertices t.own)) (is_among v (made_vertices (noted_at q r))) (sym (ap (is_among v) (made-append t.own (noted_at q r)) ∙ among-append v (made_vertices t.own) (made_vertices (noted_at q r))) ∙ h)) [
        | inl old ↦ among-append v (given_vertex r) given ∙ or_right _ _ (o.made_given v old)
        | inr now ↦ among-append v (given_vertex r) given ∙ or_left _ _ (x.made_given v now)
      ];
      made_new = λ v h. elim (or_cases (is_among v (made_vertices t.own)) (is_among v (made_vertices (noted_at q r))) (sym (ap (is_among v) (made-append t.own (noted_at q r)) ∙ among-append v (made_vertices t.own) (made_vertices (noted_at q r))) ∙ h)) [
        | inl old ↦ o.made_new v old
        | inr now ↦ false_from_ne_true _ (λ m. both_ways _ (new v (x.made_given v now)) (recorded v m))
      ];
    }

-- ---- the other sessions

-- more vertices were given, and more numbers begun
pub open-kept : (base : Base) (records : List Record) (given more : List ℕ) (next after : ℕ) (t : Trace) → next ≤ after → IsOpen base records given next t → IsOpen base records (more ++ given) after t
open-kept base records given more next after t le o = record {
  begun = omega (arith, le, o.begun);
  first = o.first;
  end = o.end;
  from = o.from;
  room = o.room;
  destinations = o.destinations;
  touched = o.touched;
  current = o.current;
  fit = o.fit;
  within = o.within;
  made_differ = o.made_differ;
  made_given = λ v h. among-append v more given ∙ or_right _ _ (o.made_given v h);
  made_new = o.made_new;
}

-- what a transaction did not take it did not change
pub untouched : (v : ℕ) (took : List ℕ) (changes : List Change) → list_all (λ c. is_among (vertex_of c) took) changes ≡ true → is_among v took ≡ false → list_any (λ c. vertex_of c == v) changes ≡ false
untouched v took [] all none = refl
untouched v took (c ∷ changes) all none =
    let parts = and_parts (is_among (vertex_of c) took) (list_all (λ x. is_among (vertex_of x) took) changes) all in
    or_from _ _ (ne_eqb (vertex_of c) v (λ e. both_ways _ none (subst (λ w. is_among w took ≡ true) e parts.0))) (untouched v took changes parts.1 none)

-- what a transaction made it took
pub made_took : (v : ℕ) (took : List ℕ) (changes : List Change) → list_all (λ c. is_among (vertex_of c) took) changes ≡ true → is_among v (made_vertices changes) ≡ true → is_among v took ≡ true
made_took v took [] all h = absurd (false≢true h)
made_took v took (change.New w p ∷ changes) all h =
    let parts = and_parts (is_among w took) (list_all (λ x. is_among (vertex_of x) took) changes) all in
    elim (or_cases (w == v) (is_among v (made_vertices changes)) h) [
      | inl e ↦ subst (λ x. is_among x took ≡ true) (eqb-true w v e) parts.0
      | inr rest ↦ made_took v took changes parts.1 rest
    ]
made_took v took (change.Set w p ∷ changes) all h = made_took v took changes (and_parts (is_among w took) (list_all (λ x. is_among (vertex_of x) took) changes) all).1 h
made_took v took (change.Drop w ∷ changes) all h = made_took v took changes (and_parts (is_among w took) (list_all (λ x. is_among (vertex_of x) took) changes) all).1 h
made_took v took (change.Put w l d p ∷ changes) all h = made_took v took changes (and_parts (is_among w took) (list_all (λ x. is_among (vertex_of x) took) changes) all).1 h
made_took v took (change.Del w l d ∷ changes) all h = made_took v took changes (and_parts (is_among w took) (list_all (λ x. is_among (vertex_of x) took) changes) all).1 h

pub all_changes-push : (records : List Record) (r : Record) → all_changes (records ++ r ∷ []) ≡ all_changes records ++ r.changes
all_changes-push records r = flat_map-append (λ s. s.changes) records (r ∷ []) ∙ ap (λ xs. all_changes records ++ xs) (append-nil r.changes)

-- Two open transactions: their numbers differ, and so do the vertices that they took.
pub record AreApart (t u : Trace) : Type 0 where
  pub numbers : (t.number == u.number) ≡ false
  pub took : (v : ℕ) → is_among v t.took ≡ true → is_among v u.took ≡ false

-- another transaction committed
pub open-recorded : (base : Base) (records : List Record) (given : List ℕ) (next : ℕ) (t u : Trace) (e : ℕ) → IsOpen base records given next u → IsOpen base records given next t → AreApart u t → u.read < e →
    IsOpen base (records ++ record_in t e ∷ []) given next u
open-recorded base records given next t u e o by apart later =
    let same = at-later base.graph records (record_in t e ∷ []) u.read u.read (omega arith) (and_from _ _ (lt-ltb u.read e later) refl) in
    record {
      begun = o.begun;
      first = o.first;
      end = o.end;
      from = o.from;
      room = o.room;
      destinations = o.destinations;
      touched = o.touched;
      current = λ v h. list_any-append (λ r. nat_lt u.read r.epoch && changes_vertex v r) records (record_in t e ∷ [])
          ∙ or_from _ _ (o.current v h) (or_from _ _ (and_right (nat_lt u.read e) _ (untouched v t.took t.own by.touched (apart.took v h))) refl);
      fit = rw same o.fit;
      within = rw same o.within;
      made_differ = o.made_differ;
      made_given = o.made_given;
      made_new = λ v h. ap (λ xs. is_among v (made_vertices xs)) (all_changes-push records (record_in t e)) ∙ ap (is_among v) (made-append (all_changes records) t.own)
          ∙ among-append v (made_vertices (all_changes records)) (made_vertices t.own)
          ∙ or_from _ _ (o.made_new v h) (false_from_ne_true _ (λ m. both_ways _ (apart.took v (made_took v u.took u.own o.touched h)) (made_took v t.took t.own by.touched m)));
    }

-- ---- the records

-- a record that shares no vertex with a list of changes
share_none : (r : Record) (changes : List Change) → ((v : ℕ) → changes_vertex v r ≡ true → list_any (λ c. vertex_of c == v) changes ≡ false) → list_any (λ c. changes_vertex (vertex_of c) r) changes ≡ false
share_none r [] h = refl
share_none r (c ∷ changes) h =
    or_from _ _ (false_from_ne_true _ (λ m. both_ways _ (h (vertex_of c) m) (or_left _ _ (eq-eqb (vertex_of c) (vertex_of c) refl))))
    (share_none r changes (λ v m. (or_parts (vertex_of c == v) (list_any (λ x. vertex_of x == v) changes) (h v m)).1))

-- a new record of the next epoch keeps apart from those whose changes it could not see
pub apart_last : (r : Record) (records : List Record) → list_all (λ s. nat_lt s.epoch r.epoch) records ≡ true →
    ((v : ℕ) → changes_vertex v r ≡ true → list_any (λ s. nat_lt r.read s.epoch && changes_vertex v s) records ≡ false) →
    list_all (λ s. keep_apart s r) records ≡ true
apart_last r [] rise none = refl
apart_last r (s ∷ records) rise none =
    let parts = and_parts (nat_lt s.epoch r.epoch) (list_all (λ x. nat_lt x.epoch r.epoch) records) rise in
    let lt = ltb-true s.epoch r.epoch parts.0 in
    let first : overlap s r ≡ false = and_right (nat_lt s.read r.epoch) _ (lt-leb r.epoch s.epoch lt) in
    let own : (overlap r s && share_vertex s r) ≡ false =
    elim (nat_lt r.read s.epoch) as (λ b. nat_lt r.read s.epoch ≡ b → ((b && nat_le s.epoch r.epoch) && share_vertex s r) ≡ false) [
      | true ↦ λ e. and_right (true && nat_le s.epoch r.epoch) _ (share_none r s.changes (λ v m.
          let both = (or_parts (nat_lt r.read s.epoch && changes_vertex v s) (list_any (λ x. nat_lt r.read x.epoch && changes_vertex v x) records) (none v m)).0 in
          subst (λ b. (b && changes_vertex v s) ≡ false) e both))
      | false ↦ λ e. refl
    ] refl in
    and_from _ _
    (not_from_false _ (ap (λ b. (b || overlap r s) && share_vertex s r) first ∙ own))
    (apart_last r records parts.1 (λ v m. (or_parts (nat_lt r.read s.epoch && changes_vertex v s) (list_any (λ x. nat_lt r.read x.epoch && changes_vertex v x) records) (none v m)).1))

pub apart-push : (records : List Record) (r : Record) → apart records ≡ true → list_all (λ s. keep_apart s r) records ≡ true → apart (records ++ r ∷ []) ≡ true
apart-push [] r a k = refl
apart-push (s ∷ records) r a k =
    let was = and_parts (list_all (keep_apart s) records) (apart records) a in
    let is = and_parts (keep_apart s r) (list_all (λ x. keep_apart x r) records) k in
    and_from _ _ (list_all-append (keep_apart s) records (r ∷ []) ∙ and_from _ _ was.0 (and_from _ _ is.0 refl)) (apart-push records r was.1 is.1)
