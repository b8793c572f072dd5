-- The plain machine serves its lines, and so its replies are legal.
use Rattle.std.proofs.Common.{◌≡◌, ℕ, suc, ◌+◌, ◌≤◌, Bool, true, false, not, cond, ◌&&◌, ◌||◌, List, [], ◌∷◌, ◌++◌, length, refl, sym, ap, ◌∙◌, subst, inl, inr, arith, append-nil, length-append}
use Rattle.std.specs.Prelude.{filter, ◌==◌, ◌%◌, map, nat_lt, nat_le, Option, Some, None, is_some}
use Rattle.std.specs.List.{list_any, list_all, AllByRecursion}
use Rattle.std.proofs.lemmas.Bool.{false≢true, cases_Bool, ltb-true, lt-ltb, and_parts, and_from, or_parts, or_from, or_left, or_right, and_left, and_right, not_from_true, eqb-true, eqb-false, eq-eqb, ne_eqb}
use Rattle.std.proofs.lemmas.List.Folds.{list_any-append}
use Rattle.std.proofs.lemmas.List.Elements.{filter-append}
use Rattle.graph_model.specs.declared.record.Record.{Record}
use Rattle.graph_model.specs.declared.graph.Base.{Base}
use Rattle.graph_model.specs.declared.change.Change.{Change}
use Rattle.graph_model.specs.declared.change.Change.TheVariants as change
use Rattle.graph_model.specs.declared.query.Query.{Query}
use Rattle.graph_model.specs.declared.query.Query.TheVariants as query
use Rattle.graph_model.specs.Records.{changes_vertex, IsGood, last_epoch}
use Rattle.request_text.specs.declared.request.Request.{Request}
use Rattle.request_text.specs.declared.request.Request.TheVariants as request
use Rattle.request_text.specs.declared.request.Line.{Line}
use Rattle.request_text.specs.declared.reply.Reply.{Reply}
use Rattle.request_text.specs.declared.reply.Reply.TheVariants as reply
use Rattle.graph_legal.specs.Lines.{Asked, Replied, answered, same_worker}
use Rattle.graph_legal.specs.Traces.{Trace, trace_of, trace_after, open_trace, is_among, is_taken_by_other, may_hold, has_committed, has_committed_beside}
use Rattle.graph_legal.specs.Kinds.{is_in_kind}
use Rattle.graph_legal.specs.TraceOk.{Run, MayTakeVertex, IsHeld, IsConflict, IsAccepted, meets_edge, is_noted, IsLogFull, ReadHolds, CommitHolds, ChangeHolds, MakeHolds, ReplyHolds, HoldsIn}
use Rattle.graph_legal.specs.Legal.{begun_numbers, given_vertices, draw_count, all_below}
use Rattle.graph_legal.specs.OneWorker.{record_at, record_in, keeps_within, has_fit_destination}
use Rattle.graph_legal.proofs.Owing.{HoldsWhenGiven, EachHoldsWhenGiven, NumberHolds, committed_records, so_far}
use Rattle.graph_legal.specs.Lines.{Phase, alone, history_onto, asked_from, asked_in}
use Rattle.graph_legal.specs.Legal.{Legal, begun_number, given_vertex, may_draw}
use Rattle.graph_legal.specs.Serial.{start, CommitEnds, MachineRuns, asked_alone, AreSpellable, State, is_taken, IsUntaken, IsFree, IsHolder, IsNewestChange, AnswerHolds, NumberFits, NextVertex, Step}
use Rattle.graph_legal.proofs.Growing.{has_committed-records_of}
use Rattle.graph_legal.proofs.Lifted.{any_known}
use Rattle.graph_legal.proofs.Numbers.{draws-cons, below_more, vertex_draws}
use Rattle.graph_legal.proofs.Holding.{before-one, each_among, all_known}
use Rattle.graph_legal.proofs.Standing.{AllStand, stands-one, next_of, ApartHolds, moved, kept, apart_from_own}
use Rattle.graph_legal.proofs.Continuing.{begun-one, legal-one}

-- ---- what a reply says follows from what it says by other locks

module _ (may may' : ℕ → Type 0) (held held' conflict conflict' : ℕ → ℕ → Type 0) (run : Run) (lines : List Replied) (t : Trace)
    (m : (v : ℕ) → may v → may' v) (h : (v n : ℕ) → held v n → held' v n) (c : (v e : ℕ) → conflict v e → conflict' v e) where
  abbrev run' : Run
  run' = record { graph = run.graph; records = run.records; lines = lines }

  accepted' : (x : Change) → IsAccepted may run t x → IsAccepted may' run' t x
  accepted' x a = record { vertex = a.vertex; lock = m _ a.lock; room = a.room }

  same_meets : (x : Change) → meets_edge run' t x ≡ meets_edge run t x
  same_meets (change.Put v l d p) = refl
  same_meets (change.Del v l d) = refl
  same_meets x = refl

  same_noted : (x : Change) → is_noted run' t x ≡ is_noted run t x
  same_noted (change.Del v l d) = refl
  same_noted x = refl

  log_full' : (x : Change) → IsLogFull run t x → IsLogFull run' t x
  log_full' (change.Put v l d p) e = e
  log_full' (change.New v p) e = e
  log_full' (change.Set v p) e = e
  log_full' (change.Drop v) e = e
  log_full' (change.Del v l d) e = e

  change' : (x : Change) (r : Reply) → ChangeHolds may held conflict run t x r → ChangeHolds may' held' conflict' run' t x r
  change' x reply.SetDone e = accepted' x e
  change' x reply.Dropped e = accepted' x e
  change' x reply.Added e = (accepted' x e.0, same_meets x ∙ e.1)
  change' x reply.Replaced e = (accepted' x e.0, same_meets x ∙ e.1)
  change' x reply.Gone e = (accepted' x e.0, same_meets x ∙ e.1)
  change' x reply.Absent e = (e.0, m _ e.1, same_meets x ∙ e.2)
  change' x reply.NoVertex e = e
  change' x (reply.Held v n) e = (e.0, e.1, h v n e.2)
  change' x (reply.Conflict v n) e = (e.0, e.1, c v n e.2)
  change' x reply.TxnFull e = (e.0, m _ e.1, e.2, same_noted x ∙ e.3)
  change' x reply.LogFull e = (e.0, m _ e.1, log_full' x e.2)
  change' x r e = e

  make' : (p : List ℕ) (r : Reply) → MakeHolds may t p r → MakeHolds may' t p r
  make' p (reply.Vertex v) e = (m v e.0, e.1)
  make' p r e = e

  read' : (q : Query) (r : Reply) → ReadHolds run t q r → ReadHolds run' t q r
  read' q reply.NoMemory e = e
  read' q r e = e

  commit' : (r : Reply) → CommitHolds run t r → CommitHolds run' t r
  commit' (reply.Committed n) e = e
  commit' r e = e

  pub reply' : (q : Request) (r : Reply) → ReplyHolds may held conflict run t q r → ReplyHolds may' held' conflict' run' t q r
  reply' (request.Get v) r e = read' (query.Vertex v) r e
  reply' (request.Edge v l d) r e = read' (query.Edge v l d) r e
  reply' (request.Scan v l) r e = read' (query.Scan v l) r e
  reply' (request.Labels v) r e = read' (query.Labels v) r e
  reply' (request.Vertex p) r e = make' p r e
  reply' (request.Set v p) r e = change' (change.Set v p) r e
  reply' (request.Drop v) r e = change' (change.Drop v) r e
  reply' (request.Put v l d p) r e = change' (change.Put v l d p) r e
  reply' (request.Del v l d) r e = change' (change.Del v l d) r e
  reply' request.Commit r e = commit' r e
  reply' request.Begin r e = e
  reply' request.Abort r e = e
  reply' (request.Compact v l) r e = e

-- ---- an open transaction has no record

abbrev Unrecorded : List Record → Option Trace → Type 0
Unrecorded records None = Unit {0}
Unrecorded records (Some t) = list_any (λ r. r.tid == t.number) records ≡ false

tids_below : (base : Base) (n : ℕ) (records : List Record) → list_all (λ r. nat_le base.next_tid r.tid && nat_lt r.tid n) records ≡ true → list_any (λ r. r.tid == n) records ≡ false
tids_below base n [] h = refl
tids_below base n (r ∷ records) h =
    let parts = and_parts (nat_le base.next_tid r.tid && nat_lt r.tid n) (list_all (λ s. nat_le base.next_tid s.tid && nat_lt s.tid n) records) h in
    let lt = ltb-true r.tid n (and_parts (nat_le base.next_tid r.tid) (nat_lt r.tid n) parts.0).1 in
    or_from _ _ (ne_eqb r.tid n (λ e. omega (arith, e, lt))) (tids_below base n records parts.1)

own_unrecorded : (base : Base) (above : List Replied) (q : Request) (r : Reply) (t : Option Trace) → NumberHolds base above q r → list_any (λ s. s.tid == next_of base above) (committed_records above) ≡ false →
    Unrecorded (committed_records above) t → Unrecorded (committed_records above ++ record_at r t) (trace_after q r t)
own_unrecorded base above q (reply.Begun n e) t num none h = rw (append-nil, num.0) none
own_unrecorded base above q (reply.Committed e) (Some t) num none h = tt
own_unrecorded base above q reply.Ended (Some t) num none h = tt
own_unrecorded base above q reply.Aborted (Some t) num none h = tt
own_unrecorded base above q (reply.Conflict v e) (Some t) num none h = tt
own_unrecorded base above q (reply.Held v n) (Some t) num none h = tt
own_unrecorded base above q (reply.LogFault m n) (Some t) num none h = tt
own_unrecorded base above q r None num none h = tt
own_unrecorded base above q r (Some t) num none h = rw append-nil h

other_unrecorded : (base : Base) (above : List Replied) (r : Reply) (t x : Option Trace) → ApartHolds t x → Unrecorded (committed_records above) x → Unrecorded (committed_records above ++ record_at r t) x
other_unrecorded base above r t None apart h = tt
other_unrecorded base above (reply.Committed e) (Some t) (Some x) apart h =
    list_any-append (λ s. s.tid == x.number) (committed_records above) (record_in t e ∷ []) ∙ or_from _ _ h (or_from _ _ apart.numbers refl)
other_unrecorded base above r t (Some x) apart h = rw append-nil h

pub unrecorded-one : (base : Base) (lines : List Replied) → IsGood base → EachHoldsWhenGiven base lines → (s : ℕ) → Unrecorded (committed_records lines) (open_trace 0 s lines)
unrecorded-one base [] good served s = tt
unrecorded-one base (a ∷ above) good served s =
    let stand = stands-one base above good served.1 in
    let past = unrecorded-one base above good served.1 in
    let none = tids_below base (next_of base above) (committed_records above) (begun-one base above good served.1) in
    elim (cases_Bool (a.session == s)) [
      | inl e ↦
          let both = moved base a above good served stand s e in
          subst (λ x. Unrecorded (committed_records (a ∷ above)) x) (sym both.1)
          (own_unrecorded base above a.request a.reply (trace_of a above) served.0.number none (subst (λ x. Unrecorded (committed_records above) x) both.0 (past s)))
      | inr e ↦ subst (λ x. Unrecorded (committed_records (a ∷ above)) x) (sym (kept base a above good served stand s e))
          (other_unrecorded base above a.reply (trace_of a above) (open_trace 0 s above) (apart_from_own base a above good served stand s e) (past s))
    ]

-- ---- the machine's state stands for the lines so far

pub record Follows (base : Base) (lines : List Replied) (state : State) : Type 0 where
  pub records : state.records ≡ committed_records lines
  pub sessions : (s : ℕ) → state.sessions s ≡ open_trace 0 s lines
  pub next_tid : state.next_tid ≡ next_of base lines
  pub low : base.next_vertex ≤ state.next_vertex
  pub high : state.next_vertex ≤ base.next_vertex + draw_count lines
  pub given : all_below state.next_vertex (given_vertices lines) ≡ true

taken_other : (v : ℕ) (t : Trace) (o : Option Trace) → is_taken v o ≡ false → is_taken_by_other v t o ≡ false
taken_other v t None h = refl
taken_other v t (Some u) h = and_right (not (u.number == t.number)) (is_among v u.took) h

not_itself : (v : ℕ) (t : Trace) (o : Option Trace) → o ≡ Some t → is_taken_by_other v t o ≡ false
not_itself v t o e = ap (is_taken_by_other v t) e ∙ and_left _ (is_among v t.took) (not_from_true _ (eq-eqb t.number t.number refl))

any_weaker : (p q : Record → Bool) (records : List Record) → list_any p records ≡ false → list_any (λ r. p r && q r) records ≡ false
any_weaker p q [] h = refl
any_weaker p q (r ∷ records) h =
    let parts = or_parts (p r) (list_any p records) h in
    or_from _ _ (and_left (p r) (q r) parts.0) (any_weaker p q records parts.1)

any_weaker_right : (p q : Record → Bool) (records : List Record) → list_any p records ≡ false → list_any (λ r. p r && q r) records ≡ false
any_weaker_right p q records h = any_weaker p q records h

-- the record of a commit is not yet known to the lines above it
own_unknown : (p : Record → Bool) (above : List Replied) (r : Reply) (t : Trace) → list_any (λ x. x.tid == t.number) (committed_records above) ≡ false →
    list_any (λ x. p x && has_committed x.tid above) (record_at r (Some t)) ≡ false
own_unknown p above (reply.Committed e) t h = or_from _ _ (and_right (p (record_in t e)) _ (has_committed-records_of t.number above ∙ h)) refl
own_unknown p above r t h = refl

own_other : (n e : ℕ) (r : Reply) (t : Trace) → (t.number == n) ≡ false → list_any (λ x. x.tid == n && nat_le x.epoch e) (record_at r (Some t)) ≡ false
own_other n e (reply.Committed m) t h = or_from _ _ (and_left (t.number == n) _ h) refl
own_other n e r t h = refl

-- a session with an open transaction has a line
beside_some : (base : Base) (d : Replied) (v n other : ℕ) (lines xs : List Replied) → d.phase ≡ 0 → d.worker ≡ 0 → EachHoldsWhenGiven base xs → may_hold v n (open_trace 0 other lines) ≡ true →
    is_some (open_trace 0 other xs) ≡ true → list_any (λ b. same_worker b d && may_hold v n (open_trace b.phase b.session lines)) xs ≡ true
beside_some base d v n other lines [] p w served h some = some
beside_some base d v n other lines (b ∷ xs) p w served h some =
    let bp = served.0.phase in
    let together : same_worker b d ≡ true = and_from _ _ (eq-eqb b.phase d.phase (bp ∙ sym p)) (eq-eqb b.worker d.worker (served.0.worker ∙ sym w)) in
    elim (cases_Bool (b.session == other)) [
      | inl e ↦
          let at_zero : may_hold v n (open_trace 0 b.session lines) ≡ true = subst (λ m. may_hold v n (open_trace 0 m lines) ≡ true) (sym (eqb-true b.session other e)) h in
          or_left _ _ (and_from _ _ together (subst (λ m. may_hold v n (open_trace m b.session lines) ≡ true) (sym bp) at_zero))
      | inr e ↦
          let skipped : open_trace 0 other (b ∷ xs) ≡ open_trace 0 other xs = ap (λ y. cond y (trace_after b.request b.reply (open_trace 0 other xs)) (open_trace 0 other xs)) (and_right (b.phase == 0) (b.session == other) e) in
          or_right _ _ (beside_some base d v n other lines xs p w served.1 h (sym (ap is_some skipped) ∙ some))
    ]

holder_number : (v n : ℕ) (t : Trace) (o : Option Trace) → ApartHolds (Some t) o → may_hold v n o ≡ true → n ≡ t.number → ⊥
holder_number v n t None apart h e = false≢true h
holder_number v n t (Some u) apart h e =
    let is = eqb-true u.number n (and_parts (u.number == n) _ h).0 in
    eqb-false t.number u.number apart.numbers (sym e ∙ sym is)

holder_some : (v n : ℕ) (o : Option Trace) → may_hold v n o ≡ true → is_some o ≡ true
holder_some v n None h = h
holder_some v n (Some u) h = refl

holder_unrecorded : (records : List Record) (v n : ℕ) (o : Option Trace) → may_hold v n o ≡ true → Unrecorded records o → list_any (λ r. r.tid == n) records ≡ false
holder_unrecorded records v n None h u = absurd (false≢true h)
holder_unrecorded records v n (Some x) h u = subst (λ m. list_any (λ r. r.tid == m) records ≡ false) (eqb-true x.number n (and_parts (x.number == n) _ h).0) u

module _ (base : Base) (good : IsGood base) (above : List Replied) (served : EachHoldsWhenGiven base above) (state : State) (f : Follows base above state) (a : Asked) (p : a.phase ≡ 0) (w : a.worker ≡ 0) (r : Reply) where
  abbrev d : Replied
  d = answered a r

  stand : AllStand base above
  stand = stands-one base above good served

  module _ (t : Trace) (own : state.sessions a.session ≡ Some t) where
    abbrev run : Run
    run = record { graph = base.graph; records = committed_records above ++ record_at r (Some t); lines = d ∷ above }

    own_open : open_trace 0 a.session above ≡ Some t
    own_open = sym (f.sessions a.session) ∙ own

    unrecorded : list_any (λ x. x.tid == t.number) (committed_records above) ≡ false
    unrecorded = subst (λ o. Unrecorded (committed_records above) o) own_open (unrecorded-one base above good served a.session)

    free_of : (v : ℕ) → IsUntaken state a.session v → (xs : List Replied) → EachHoldsWhenGiven base xs → list_any (λ b. same_worker b d && is_taken_by_other v t (open_trace b.phase b.session above)) xs ≡ false
    free_of v h [] s = refl
    free_of v h (b ∷ xs) s =
        let zero_phase : open_trace b.phase b.session above ≡ state.sessions b.session = ap (λ n. open_trace n b.session above) s.0.phase ∙ sym (f.sessions b.session) in
        let none : is_taken_by_other v t (open_trace b.phase b.session above) ≡ false = elim (cases_Bool (b.session == a.session)) [
          | inl e ↦ not_itself v t (open_trace b.phase b.session above) (zero_phase ∙ ap state.sessions (eqb-true b.session a.session e) ∙ own)
          | inr e ↦ ap (is_taken_by_other v t) zero_phase ∙ taken_other v t (state.sessions b.session) (h b.session e)
        ] in
        or_from _ _ (and_right (same_worker b d) _ none) (free_of v h xs s.1)

    may_take : (v : ℕ) → IsFree state a.session t v → MayTakeVertex run t d above v
    may_take v h = record {
      free = free_of v h.untaken above served;
      current = list_any-append (λ x. nat_lt t.read x.epoch && changes_vertex v x && has_committed x.tid above) (committed_records above) (record_at r (Some t))
          ∙ or_from _ _ (any_weaker (λ x. nat_lt t.read x.epoch && changes_vertex v x) (λ x. has_committed x.tid above) (committed_records above)
          (subst (λ rs. list_any (λ x. nat_lt t.read x.epoch && changes_vertex v x) rs ≡ false) f.records h.current))
          (own_unknown (λ x. nat_lt t.read x.epoch && changes_vertex v x) above r t unrecorded);
    }

    holder : (v n : ℕ) → IsHolder state a.session v n → IsHeld run t d above v n
    holder v n h =
        let open_other : may_hold v n (open_trace 0 h.other above) ≡ true = subst (λ o. may_hold v n o ≡ true) (f.sessions h.other) h.holds in
        let differs : (a.session == h.other) ≡ false = ne_eqb a.session h.other (λ e. eqb-false h.other a.session h.differs (sym e)) in
        let apart : ApartHolds (Some t) (open_trace 0 h.other above) = subst (λ o. ApartHolds o (open_trace 0 h.other above)) own_open (stand.sessions_apart a.session h.other differs) in
        let unknown = holder_unrecorded (committed_records above) v n (open_trace 0 h.other above) open_other (unrecorded-one base above good served h.other) in
        record {
          other = holder_number v n t (open_trace 0 h.other above) apart open_other;
          takes = or_left _ _ (beside_some base d v n h.other above above p w served open_other (holder_some v n _ open_other));
          unseen = list_any-append (λ x. x.tid == n && nat_le x.epoch t.read) (committed_records above) (record_at r (Some t))
              ∙ or_from _ _ (any_weaker (λ x. x.tid == n) (λ x. nat_le x.epoch t.read) (committed_records above) unknown)
              (own_other n t.read r t (ne_eqb t.number n (λ e. holder_number v n t (open_trace 0 h.other above) apart open_other (sym e))));
        }

    newest : (v e : ℕ) → IsNewestChange state a.session t v e → IsConflict run t d above v e
    newest v e h = record {
      later = h.unseen;
      changed = list_any-append (λ x. (x.epoch == e && changes_vertex v x) && (has_committed x.tid above || not (has_committed_beside d x.tid (d ∷ above)))) (committed_records above) (record_at r (Some t))
          ∙ or_left _ _ (any_known (λ x. x.epoch == e && changes_vertex v x) (λ x. has_committed x.tid above) (λ x. not (has_committed_beside d x.tid (d ∷ above))) (committed_records above) (all_known above (committed_records above) (each_among [] (committed_records above)))
          ∙ subst (λ rs. list_any (λ x. x.epoch == e && changes_vertex v x) rs ≡ true) f.records h.changed);
      free = free_of v h.untaken above served;
      last = list_any-append (λ x. nat_lt e x.epoch && changes_vertex v x && has_committed x.tid above) (committed_records above) (record_at r (Some t))
          ∙ or_from _ _ (any_weaker (λ x. nat_lt e x.epoch && changes_vertex v x) (λ x. has_committed x.tid above) (committed_records above)
          (subst (λ rs. list_any (λ x. nat_lt e x.epoch && changes_vertex v x) rs ≡ false) f.records h.newest))
          (own_unknown (λ x. nat_lt e x.epoch && changes_vertex v x) above r t unrecorded);
    }

  filter_out : (n : ℕ) (records : List Record) → list_any (λ x. x.tid == n) records ≡ false → filter (λ x. x.tid == n) records ≡ []
  filter_out n [] h = refl
  filter_out n (x ∷ records) h =
      let parts = or_parts (x.tid == n) (list_any (λ y. y.tid == n) records) h in
      rw parts.0 (filter_out n records parts.1)

  -- a commit puts the one record of its number
  commit_of : (t : Trace) (q : Reply) → list_any (λ x. x.tid == t.number) (committed_records above) ≡ false → CommitEnds t q →
      CommitHolds (record { graph = base.graph; records = committed_records above ++ record_at q (Some t); lines = d ∷ above }) t q
  commit_of t (reply.Committed e) unknown h = (
    h,
    filter-append (λ x. x.tid == t.number) (committed_records above) (record_in t e ∷ []) ∙ ap (λ xs. xs ++ filter (λ x. x.tid == t.number) (record_in t e ∷ [])) (filter_out t.number (committed_records above) unknown)
        ∙ ap (λ b. cond b (record_in t e ∷ []) []) (eq-eqb t.number t.number refl),
  )
  commit_of t reply.Ended unknown h = h
  commit_of t (reply.LogFault m n) unknown h = h
  commit_of t q unknown h = tt

  by_locks : (t : Trace) (own : state.sessions a.session ≡ Some t) (q : Request) →
      ReplyHolds (IsFree state a.session t) (IsHolder state a.session) (IsNewestChange state a.session t) (record { graph = base.graph; records = committed_records above ++ record_at r (Some t); lines = [] }) t q r →
      ReplyHolds (MayTakeVertex (run t own) t d above) (IsHeld (run t own) t d above) (IsConflict (run t own) t d above) (run t own) t q r
  by_locks t own q h =
      reply' (IsFree state a.session t) (MayTakeVertex (run t own) t d above) (IsHolder state a.session) (IsHeld (run t own) t d above) (IsNewestChange state a.session t) (IsConflict (run t own) t d above)
      (record { graph = base.graph; records = committed_records above ++ record_at r (Some t); lines = [] }) (d ∷ above) t (may_take t own) (holder t own) (newest t own) q r h

  -- what the machine answers holds by the lines
  holds_of : (x : Option Trace) → state.sessions a.session ≡ x → (q : Request) → AnswerHolds base state a.session x q r →
      HoldsIn (record { graph = base.graph; records = committed_records above ++ record_at r x; lines = d ∷ above }) x d above q r
  holds_of None own q h = tt
  holds_of (Some t) own request.Commit h = commit_of t r (unrecorded t own) h
  holds_of (Some t) own request.Begin h = by_locks t own request.Begin (subst (λ rs. ReplyHolds (IsFree state a.session t) (IsHolder state a.session) (IsNewestChange state a.session t) (record { graph = base.graph; records = rs ++ record_at r (Some t); lines = [] }) t request.Begin r) f.records h)
  holds_of (Some t) own (request.Vertex p) h = by_locks t own (request.Vertex p) (subst (λ rs. ReplyHolds (IsFree state a.session t) (IsHolder state a.session) (IsNewestChange state a.session t) (record { graph = base.graph; records = rs ++ record_at r (Some t); lines = [] }) t (request.Vertex p) r) f.records h)
  holds_of (Some t) own (request.Set v p) h = by_locks t own (request.Set v p) (subst (λ rs. ReplyHolds (IsFree state a.session t) (IsHolder state a.session) (IsNewestChange state a.session t) (record { graph = base.graph; records = rs ++ record_at r (Some t); lines = [] }) t (request.Set v p) r) f.records h)
  holds_of (Some t) own (request.Get v) h = by_locks t own (request.Get v) (subst (λ rs. ReplyHolds (IsFree state a.session t) (IsHolder state a.session) (IsNewestChange state a.session t) (record { graph = base.graph; records = rs ++ record_at r (Some t); lines = [] }) t (request.Get v) r) f.records h)
  holds_of (Some t) own (request.Drop v) h = by_locks t own (request.Drop v) (subst (λ rs. ReplyHolds (IsFree state a.session t) (IsHolder state a.session) (IsNewestChange state a.session t) (record { graph = base.graph; records = rs ++ record_at r (Some t); lines = [] }) t (request.Drop v) r) f.records h)
  holds_of (Some t) own (request.Put v l n p) h = by_locks t own (request.Put v l n p) (subst (λ rs. ReplyHolds (IsFree state a.session t) (IsHolder state a.session) (IsNewestChange state a.session t) (record { graph = base.graph; records = rs ++ record_at r (Some t); lines = [] }) t (request.Put v l n p) r) f.records h)
  holds_of (Some t) own (request.Del v l n) h = by_locks t own (request.Del v l n) (subst (λ rs. ReplyHolds (IsFree state a.session t) (IsHolder state a.session) (IsNewestChange state a.session t) (record { graph = base.graph; records = rs ++ record_at r (Some t); lines = [] }) t (request.Del v l n) r) f.records h)
  holds_of (Some t) own (request.Edge v l n) h = by_locks t own (request.Edge v l n) (subst (λ rs. ReplyHolds (IsFree state a.session t) (IsHolder state a.session) (IsNewestChange state a.session t) (record { graph = base.graph; records = rs ++ record_at r (Some t); lines = [] }) t (request.Edge v l n) r) f.records h)
  holds_of (Some t) own (request.Scan v l) h = by_locks t own (request.Scan v l) (subst (λ rs. ReplyHolds (IsFree state a.session t) (IsHolder state a.session) (IsNewestChange state a.session t) (record { graph = base.graph; records = rs ++ record_at r (Some t); lines = [] }) t (request.Scan v l) r) f.records h)
  holds_of (Some t) own (request.Labels v) h = by_locks t own (request.Labels v) (subst (λ rs. ReplyHolds (IsFree state a.session t) (IsHolder state a.session) (IsNewestChange state a.session t) (record { graph = base.graph; records = rs ++ record_at r (Some t); lines = [] }) t (request.Labels v) r) f.records h)
  holds_of (Some t) own request.Abort h = by_locks t own request.Abort (subst (λ rs. ReplyHolds (IsFree state a.session t) (IsHolder state a.session) (IsNewestChange state a.session t) (record { graph = base.graph; records = rs ++ record_at r (Some t); lines = [] }) t request.Abort r) f.records h)
  holds_of (Some t) own (request.Compact v l) h = by_locks t own (request.Compact v l) (subst (λ rs. ReplyHolds (IsFree state a.session t) (IsHolder state a.session) (IsNewestChange state a.session t) (record { graph = base.graph; records = rs ++ record_at r (Some t); lines = [] }) t (request.Compact v l) r) f.records h)

-- ---- the numbers

number_of_step : (base : Base) (above : List Replied) (state : State) → Follows base above state → (q : Request) (r : Reply) → NumberFits base state q r → NumberHolds base above q r
number_of_step base above state f q (reply.Begun n e) h = (h.0 ∙ f.next_tid, h.1, h.2 ∙ ap (last_epoch base.epoch) f.records)
number_of_step base above state f q (reply.Vertex v) h =
    (omega (arith, h.0, f.low), subst (λ n. all_below n (given_vertices above) ≡ true) (sym h.0) f.given, omega (arith, h.0, f.high), h.1)
number_of_step base above state f q (reply.Committed e) h = h ∙ ap (λ rs. last_epoch base.epoch rs + 1) f.records
number_of_step base above state f request.Begin reply.Spent h = sym f.next_tid ∙ h
number_of_step base above state f (request.Vertex p) reply.Spent h = omega (arith, h, f.high)
number_of_step base above state f q reply.Spent h = tt
number_of_step base above state f q r h = tt

-- the next vertex number stays between those that were given and those that were drawn
pub record VertexNumbers (base : Base) (new draws_now : ℕ) (given : List ℕ) : Type 0 where
  pub low : base.next_vertex ≤ new
  pub high : new ≤ base.next_vertex + draws_now
  pub below : all_below new given ≡ true

same_vertices : (base : Base) (above : List Replied) (state : State) → Follows base above state → (new : ℕ) → new ≡ state.next_vertex → VertexNumbers base new (0 + draw_count above) (given_vertices above)
same_vertices base above state f new h = record {
  low = omega (arith, h, f.low);
  high = omega (arith, h, f.high);
  below = subst (λ n. all_below n (given_vertices above) ≡ true) (sym h) f.given;
}

vertices_of_step : (base : Base) (above : List Replied) (state : State) → Follows base above state → (t : Option Trace) (q : Request) (r : Reply) (new : ℕ) → is_in_kind t q r ≡ true →
    NumberFits base state q r → NextVertex q r state.next_vertex new → VertexNumbers base new (cond (may_draw q r) 1 0 + draw_count above) (given_vertex r ++ given_vertices above)
vertices_of_step base above state f t (request.Vertex p) (reply.Vertex v) new k num h = record {
  low = omega (arith, h, f.low);
  high = omega (arith, h, f.high);
  below = and_from _ _ (lt-ltb v new (omega (arith, h, num.0))) (below_more state.next_vertex new (given_vertices above) (omega (arith, h)) f.given);
}
vertices_of_step base above state f t (request.Vertex p) reply.NoMemory new k num h = record {
  low = omega (arith, h.0, f.low);
  high = omega (arith, h.1, f.high);
  below = below_more state.next_vertex new (given_vertices above) h.0 f.given;
}
vertices_of_step base above state f t q (reply.Vertex v) new k num h = absurd (false≢true (vertex_draws t q v k))
vertices_of_step base above state f t q r new k num h = same_vertices base above state f new h

-- ---- one step, and a whole run

both_served : (base : Base) (good : IsGood base) (above : List Replied) (served : EachHoldsWhenGiven base above) (state : State) (f : Follows base above state) (a : Asked) (p : a.phase ≡ 0) (w : a.worker ≡ 0) (r : Reply)
    (new : State) → has_fit_destination a.request ≡ true → Step base state a.session a.request r new → HoldsWhenGiven base (answered a r) above × Follows base (answered a r ∷ above) new
both_served base good above served state f a p w r new fit step =
    let d = answered a r in
    let same : trace_of d above ≡ state.sessions a.session = ap (λ n. open_trace n a.session above) p ∙ sym (f.sessions a.session) in
    let back = sym same in
    let held = holds_of base good above served state f a p w r (trace_of d above) back a.request (subst (λ x. AnswerHolds base state a.session x a.request r) back step.holds) in
    let within : keeps_within (record { graph = base.graph; records = state.records ++ record_at r (trace_of d above); lines = [] }) (trace_of d above) a.request r ≡ true
    = subst (λ x. keeps_within (record { graph = base.graph; records = state.records ++ record_at r x; lines = [] }) x a.request r ≡ true) back step.within in
    let kind : is_in_kind (trace_of d above) a.request r ≡ true = subst (λ x. is_in_kind x a.request r ≡ true) back step.kind in
    let vertices = vertices_of_step base above state f (trace_of d above) a.request r new.next_vertex kind step.number step.next_vertex in
    let begun = length-append (begun_number r) (begun_numbers above) in
    let drew = draws-cons d above in (
      record {
        phase = p;
        worker = w;
        kind = kind;
        holds = subst (λ b. HoldsIn (so_far base (d ∷ above)) (trace_of d above) d b a.request r) (sym (before-one base d above p w served)) held;
        number = number_of_step base above state f a.request r step.number;
        destination = fit;
        within = subst (λ rs. keeps_within (record { graph = base.graph; records = rs ++ record_at r (trace_of d above); lines = [] }) (trace_of d above) a.request r ≡ true) f.records within;
      },
      record {
        records = step.records ∙ ap (λ x. state.records ++ record_at r x) back ∙ ap (λ rs. rs ++ record_at r (trace_of d above)) f.records;
        sessions = λ s. step.sessions s
            ∙ ap (λ o. cond (a.session == s) (trace_after a.request r o) o) (f.sessions s)
            ∙ ap (λ b. cond b (trace_after a.request r (open_trace 0 s above)) (open_trace 0 s above)) (sym (ap (λ b. b && a.session == s) (eq-eqb a.phase 0 p)));
        next_tid = step.next_tid ∙ (let was = f.next_tid in omega (arith, was, begun));
        low = vertices.low;
        high = (let top = vertices.high in omega (arith, top, drew));
        given = vertices.below;
      },
    )

-- lines that one worker runs, whose destinations a script can spell
abbrev pub IsPlain : Asked → Type 0
IsPlain a = (a.phase ≡ 0) × (a.worker ≡ 0) × (has_fit_destination a.request ≡ true)

runs_served : (base : Base) → IsGood base → (past : List Replied) (state : State) (asked : List Asked) (replies : List Reply) (records : List Record) → AllByRecursion IsPlain asked → EachHoldsWhenGiven base past → Follows base past state →
    MachineRuns base state asked replies records → EachHoldsWhenGiven base (history_onto past asked replies) × (records ≡ committed_records (history_onto past asked replies)) × (length asked ≡ length replies)
runs_served base good past state [] [] records plain served f h = (served, h ∙ f.records, refl)
runs_served base good past state (a ∷ asked) (r ∷ replies) records plain served f h =
    let both = both_served base good past served state f a plain.0.0 plain.0.1 r h.0 plain.0.2 h.1 in
    let rest = runs_served base good (answered a r ∷ past) h.0 asked replies records plain.1 (both.0, served) both.1 h.2 in
    (rest.0, rest.1, ap (λ n. suc n) rest.2)
runs_served base good past state [] (r ∷ replies) records plain served f h = absurd h
runs_served base good past state (a ∷ asked) [] records plain served f h = absurd h

-- **Whatever script one worker runs by the machine, its replies are legal for the records that it commits.**
pub serial-legal : (base : Base) (script : Phase) (replies : List Reply) (records : List Record) → IsGood base → AllByRecursion IsPlain (asked_from 0 (script ∷ [])) →
    MachineRuns base (start base) (asked_from 0 (script ∷ [])) replies records → Legal (script ∷ []) base records replies
serial-legal base script replies records good plain run =
    let begin : Follows base [] (start base) = record { records = refl; sessions = λ s. refl; next_tid = omega arith; low = omega arith; high = omega arith; given = refl } in
    let done = runs_served base good [] (start base) (asked_from 0 (script ∷ [])) replies records plain tt begin run in
    subst (λ rs. Legal (script ∷ []) base rs replies) (sym done.1) (legal-one script base replies good done.2 done.0)

rem_one : (n : ℕ) → n % 1 ≡ 0
rem_one n = omega arith

plain_lines : (script : List Line) → AreSpellable script → AllByRecursion IsPlain (map (asked_in 0 1) script ++ [])
plain_lines [] h = tt
plain_lines (line ∷ script) h = ((refl, rem_one line.session, h.0), plain_lines script h.1)

pub machine-legal : (base : Base) (script : List Line) (replies : List Reply) (records : List Record) → IsGood base → AreSpellable script →
    MachineRuns base (start base) (asked_alone script) replies records → Legal (alone script) base records replies
machine-legal base script replies records good fit run =
    serial-legal base (record { script = script; workers = 1 }) replies records good (plain_lines script fit) run
