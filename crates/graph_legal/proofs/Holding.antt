-- One worker: each reply that held when it was given holds of all records of the run.
use Rattle.std.proofs.Common.{◌≡◌, ℕ, ◌≤◌, Bool, true, false, not, cond, ◌&&◌, ◌||◌, List, [], ◌∷◌, ◌++◌, length, refl, sym, ap, ◌∙◌, subst, arith, append_assoc, append-nil, length-append}
use Rattle.std.specs.Prelude.{◌==◌, nat_lt, filter, Option, Some, None}
use Rattle.std.specs.List.{list_any, list_all}
use Rattle.std.proofs.lemmas.Bool.{both_ways, false≢true, ltb-true, lt-ltb, and_parts, and_from, or_parts, or_from, or_left, or_right, and_left, and_right, not-true, not_from_false, not_from_true, eqb-true, eq-eqb, false_from_ne_true}
use Rattle.std.proofs.lemmas.List.Folds.{list_any-append, list_all-append}
use Rattle.std.proofs.lemmas.List.Elements.{filter-append}
use Rattle.graph_model.specs.declared.record.Record.{Record}
use Rattle.graph_model.specs.declared.graph.Base.{Base}
use Rattle.graph_model.specs.declared.change.Change.TheVariants as change
use Rattle.graph_model.specs.declared.query.Query.TheVariants as query
use Rattle.graph_model.specs.Records.{last_epoch}
use Rattle.request_text.specs.declared.request.Request.{Request}
use Rattle.request_text.specs.declared.request.Request.TheVariants as request
use Rattle.request_text.specs.declared.reply.Reply.{Reply}
use Rattle.request_text.specs.declared.reply.Reply.TheVariants as reply
use Rattle.graph_legal.specs.Lines.{Replied, EachLine, same_worker, is_before, before}
use Rattle.graph_legal.specs.Traces.{Trace, trace_of, trace_after, open_trace, has_committed, is_held_elsewhere}
use Rattle.graph_legal.specs.Kinds.{is_in_kind}
use Rattle.graph_legal.specs.TraceOk.{Run, HoldsIn, LineHolds, CommitHolds}
use Rattle.graph_legal.specs.OneWorker.{record_at, record_in}
use Rattle.graph_legal.proofs.Owing.{HoldsWhenGiven, EachHoldsWhenGiven, NumberHolds, committed_records, epoch_of, so_far}
use Rattle.graph_legal.proofs.Growing.{has_committed-records_of, are_new}
use Rattle.graph_legal.proofs.Lifted.{Facts, change_later, make_later, read_later}

-- ---- one worker does all

same_zero : (b a : Replied) → b.phase ≡ 0 → b.worker ≡ 0 → a.phase ≡ 0 → a.worker ≡ 0 → same_worker b a ≡ true
same_zero b a bp bw ap' aw = and_from _ _ (eq-eqb b.phase a.phase (bp ∙ sym ap')) (eq-eqb b.worker a.worker (bw ∙ sym aw))

pub before-one : (base : Base) (a : Replied) (above : List Replied) → a.phase ≡ 0 → a.worker ≡ 0 → EachHoldsWhenGiven base above → before a above ≡ above
before-one base a [] p w h = refl
before-one base a (b ∷ above) p w h =
    let here : is_before b a ≡ true = or_right (nat_lt b.phase a.phase) (same_worker b a) (same_zero b a h.0.phase h.0.worker p w) in
    rw here (ap (λ xs. b ∷ xs) (before-one base a above p w h.1))

none_elsewhere : (base : Base) (a : Replied) (v n : ℕ) (lines : List Replied) → a.phase ≡ 0 → a.worker ≡ 0 → EachHoldsWhenGiven base lines → is_held_elsewhere a lines v n ≡ false
none_elsewhere base a v n [] p w h = refl
none_elsewhere base a v n (b ∷ above) p w h =
    or_from _ _ (and_left _ _ (and_left _ _ (and_right (b.phase == a.phase) _ (not_from_true _ (eq-eqb b.worker a.worker (h.0.worker ∙ sym w)))))) (none_elsewhere base a v n above p w h.1)

-- ---- epochs

pub last_epoch-push : (e : ℕ) (records : List Record) (r : Record) → last_epoch e (records ++ r ∷ []) ≡ r.epoch
last_epoch-push e [] r = refl
last_epoch-push e (s ∷ records) r = last_epoch-push s.epoch records r

-- the epoch grows by one with a record, and else stays
pub epoch-grows : (base : Base) (above : List Replied) (q : Request) (r : Reply) (t : Option Trace) → NumberHolds base above q r →
    epoch_of base above ≤ last_epoch base.epoch (committed_records above ++ record_at r t)
epoch-grows base above q (reply.Committed e) (Some t) h =
    let last = last_epoch-push base.epoch (committed_records above) (record_in t e) in
    omega (arith, last, h)
epoch-grows base above q (reply.Committed e) None h = rw append-nil (omega arith)
epoch-grows base above q r t h = rw append-nil (omega arith)

-- a transaction's epoch is at most this one
abbrev pub ReadAtMost : ℕ → Option Trace → Type 0
ReadAtMost n None = Unit {0}
ReadAtMost n (Some t) = t.read ≤ n

read_more : (m n : ℕ) (t : Option Trace) → m ≤ n → ReadAtMost m t → ReadAtMost n t
read_more m n None le h = tt
read_more m n (Some t) le h = omega (arith, le, h)

grown_read : (base : Base) (above : List Replied) (q : Request) (r : Reply) (t : Option Trace) → NumberHolds base above q r →
    ReadAtMost (epoch_of base above) t → ReadAtMost (epoch_of base above) (trace_after q r t)
grown_read base above q (reply.Begun n e) t num h = omega (arith, num.2)
grown_read base above q r None num h = tt
grown_read base above q (reply.Committed e) (Some t) num h = tt
grown_read base above q reply.Ended (Some t) num h = tt
grown_read base above q reply.Aborted (Some t) num h = tt
grown_read base above q (reply.Conflict v e) (Some t) num h = tt
grown_read base above q (reply.Held v n) (Some t) num h = tt
grown_read base above q (reply.LogFault m n) (Some t) num h = tt
grown_read base above q r (Some t) num h = h

pub read-at-most : (base : Base) (phase session : ℕ) (lines : List Replied) → EachHoldsWhenGiven base lines → ReadAtMost (epoch_of base lines) (open_trace phase session lines)
read-at-most base phase session [] h = tt
read-at-most base phase session (a ∷ above) h =
    let past = read-at-most base phase session above h.1 in
    let grows = epoch-grows base above a.request a.reply (trace_of a above) h.0.number in
    read_more _ _ _ grows (
    elim (a.phase == phase && a.session == session) as (λ b. ReadAtMost (epoch_of base above) (cond b (trace_after a.request a.reply (open_trace phase session above)) (open_trace phase session above))) [
      | true ↦ grown_read base above a.request a.reply (open_trace phase session above) h.0.number past
      | false ↦ past
    ])

-- ---- the records of fewer lines, and those that came later

pub record Grows (base : Base) (lines all : List Replied) : Type 0 where
  pub later : List Record
  pub is : committed_records all ≡ committed_records lines ++ later
  pub rise : list_all (λ r. nat_lt (epoch_of base lines) r.epoch) later ≡ true
  pub new : are_new lines later ≡ true

rise_less : (m n : ℕ) (later : List Record) → m ≤ n → list_all (λ r. nat_lt n r.epoch) later ≡ true → list_all (λ r. nat_lt m r.epoch) later ≡ true
rise_less m n [] le h = refl
rise_less m n (r ∷ later) le h =
    let parts = and_parts (nat_lt n r.epoch) (list_all (λ s. nat_lt n s.epoch) later) h in
    let lt = ltb-true n r.epoch parts.0 in
    and_from _ _ (lt-ltb m r.epoch (omega (arith, lt, le))) (rise_less m n later le parts.1)

new_less : (a : Replied) (above : List Replied) (later : List Record) → are_new (a ∷ above) later ≡ true → are_new above later ≡ true
new_less a above [] h = refl
new_less a above (r ∷ later) h =
    let parts = and_parts (not (has_committed r.tid (a ∷ above))) (are_new (a ∷ above) later) h in
    let none = or_parts _ _ (not-true _ parts.0) in
    and_from _ _ (not_from_false _ none.1) (new_less a above later parts.1)

no_more : (xs : List Record) (r : Record) → xs ++ r ∷ [] ≡ r ∷ [] → length xs ≡ 0
no_more xs r e = let n = sym (length-append xs (r ∷ [])) ∙ ap length e in omega (arith, n)

none_of_length : {A : Type 0} (xs : List A) → length xs ≡ 0 → xs ≡ []
none_of_length [] h = refl
none_of_length (x ∷ xs) h = absurd (omega (arith, h))

filter_none : (p : Record → Bool) (xs : List Record) → filter p xs ≡ [] → list_any p xs ≡ false
filter_none p [] h = refl
filter_none p (x ∷ xs) h =
    elim (p x) as (λ b. cond b (x ∷ filter p xs) (filter p xs) ≡ [] → (b || list_any p xs) ≡ false) [
      | true ↦ λ e. absurd (cons_not_nil _ _ e)
      | false ↦ λ e. filter_none p xs e
    ] h
  where
    cons_not_nil : (y : Record) (ys : List Record) → y ∷ ys ≡ [] → ⊥
    cons_not_nil y ys e = cc

-- the number of a new record is that of no record before it
new_number : (n : ℕ) (records : List Record) (r : Record) → r.tid ≡ n → filter (λ s. s.tid == n) (records ++ r ∷ []) ≡ r ∷ [] → list_any (λ s. s.tid == n) records ≡ false
new_number n records r e h =
    let own : filter (λ s. s.tid == n) (r ∷ []) ≡ r ∷ [] = rw (eq-eqb r.tid n e) refl in
    let split : filter (λ s. s.tid == n) records ++ r ∷ [] ≡ r ∷ [] = ap (λ xs. filter (λ s. s.tid == n) records ++ xs) (sym own) ∙ sym (filter-append (λ s. s.tid == n) records (r ∷ [])) ∙ h in
    filter_none (λ s. s.tid == n) records (none_of_length _ (no_more _ r split))

-- the run after a line with this reply
abbrev pub RunWith : Base → List Replied → Replied → Reply → Option Trace → Run
RunWith base above a r t = record { graph = base.graph; records = committed_records above ++ record_at r t; lines = a ∷ above }

-- what a line adds is new: its epoch is the next one, and its transaction has no record yet
pub added : (base : Base) (a : Replied) (above before : List Replied) (t : Option Trace) (q : Request) (r : Reply) →
    is_in_kind t q r ≡ true → NumberHolds base above q r → HoldsIn (RunWith base above a r t) t a before q r →
    (list_all (λ s. nat_lt (epoch_of base above) s.epoch) (record_at r t) ≡ true) × (are_new above (record_at r t) ≡ true)
added base a above before None q (reply.Committed e) k n h = (refl, refl)
added base a above before (Some t) request.Commit (reply.Committed e) k n h =
    let none = new_number t.number (committed_records above) (record_in t e) refl h.1 in
    let unknown : has_committed t.number above ≡ false = has_committed-records_of t.number above ∙ none in
    (and_from _ _ (lt-ltb (epoch_of base above) e (omega (arith, n))) refl, and_from _ _ (not_from_false _ unknown) refl)
added base a above before (Some t) q (reply.Committed e) k n h = absurd (false≢true k)
added base a above before t q r k n h = (refl, refl)

-- the same records, seen from one line less
pub grows-less : (base : Base) (a : Replied) (above all : List Replied) → HoldsWhenGiven base a above → Grows base (a ∷ above) all → Grows base above all
grows-less base a above all s g =
    let new = added base a above (before a above) (trace_of a above) a.request a.reply s.kind s.number s.holds in
    let grows = epoch-grows base above a.request a.reply (trace_of a above) s.number in
    record {
      later = record_at a.reply (trace_of a above) ++ g.later;
      is = g.is ∙ append_assoc (committed_records above) (record_at a.reply (trace_of a above)) g.later;
      rise = list_all-append _ (record_at a.reply (trace_of a above)) g.later ∙ and_from _ _ new.0 (rise_less _ _ g.later grows g.rise);
      new = list_all-append _ (record_at a.reply (trace_of a above)) g.later ∙ and_from _ _ new.1 (new_less a above g.later g.new);
    }

-- ---- a line's reply, when later records are there

pub each_among : (front records : List Record) → list_all (λ r. list_any (λ s. s.tid == r.tid) (front ++ records)) records ≡ true
each_among front [] = refl
each_among front (r ∷ records) =
    let self : (r.tid == r.tid) ≡ true = eq-eqb r.tid r.tid refl in
    let here : list_any (λ s. s.tid == r.tid) (front ++ r ∷ records) ≡ true = list_any-append (λ s. s.tid == r.tid) front (r ∷ records) ∙ or_right _ _ (or_left _ _ self) in
    and_from _ _ here (subst (λ xs. list_all (λ x. list_any (λ s. s.tid == x.tid) xs) records ≡ true) (append_assoc front (r ∷ []) records) (each_among (front ++ r ∷ []) records))

pub all_known : (above : List Replied) (records : List Record) → list_all (λ r. list_any (λ s. s.tid == r.tid) (committed_records above)) records ≡ true → list_all (λ r. has_committed r.tid above) records ≡ true
all_known above [] h = refl
all_known above (r ∷ records) h =
    let parts = and_parts (list_any (λ s. s.tid == r.tid) (committed_records above)) (list_all (λ x. list_any (λ s. s.tid == x.tid) (committed_records above)) records) h in
    and_from _ _ (has_committed-records_of r.tid above ∙ parts.0) (all_known above records parts.1)

abbrev pub is_commit : Request → Bool
is_commit request.Commit = true
is_commit q = false

-- only a commit adds a record
pub no_record : (t : Option Trace) (q : Request) (r : Reply) → is_in_kind t q r ≡ true → is_commit q ≡ false → record_at r t ≡ []
no_record None q (reply.Committed e) k h = refl
no_record (Some t) request.Commit (reply.Committed e) k h = absurd (false≢true (sym h))
no_record (Some t) q (reply.Committed e) k h = absurd (false≢true k)
no_record t q r k h = refl

none_same : (n : ℕ) (records later : List Record) → list_any (λ s. s.tid == n) records ≡ true →
    list_all (λ r. not (list_any (λ s. s.tid == r.tid) records)) later ≡ true → filter (λ s. s.tid == n) later ≡ []
none_same n records [] h new = refl
none_same n records (r ∷ later) h new =
    let parts = and_parts (not (list_any (λ s. s.tid == r.tid) records)) (list_all (λ x. not (list_any (λ s. s.tid == x.tid) records)) later) new in
    let other : (r.tid == n) ≡ false = false_from_ne_true (r.tid == n) (λ e.
    both_ways _ (not-true _ parts.0) (subst (λ m. list_any (λ s. s.tid == m) records ≡ true) (sym (eqb-true r.tid n e)) h)) in
    rw other (none_same n records later h parts.1)

new_by_records : (lines : List Replied) (later : List Record) → are_new lines later ≡ true → list_all (λ r. not (list_any (λ s. s.tid == r.tid) (committed_records lines))) later ≡ true
new_by_records lines [] h = refl
new_by_records lines (r ∷ later) h =
    let parts = and_parts (not (has_committed r.tid lines)) (are_new lines later) h in
    and_from _ _ (sym (ap not (has_committed-records_of r.tid lines)) ∙ parts.0) (new_by_records lines later parts.1)

commit_later : (base : Base) (a : Replied) (above all : List Replied) (later : List Record) (t : Trace) (r : Reply) →
    list_all (λ x. not (list_any (λ s. s.tid == x.tid) (committed_records above ++ record_at r (Some t)))) later ≡ true →
    CommitHolds (RunWith base above a r (Some t)) t r →
    CommitHolds (record { graph = base.graph; records = (committed_records above ++ record_at r (Some t)) ++ later; lines = all }) t r
commit_later base a above all later t (reply.Committed e) new h =
    let records = committed_records above ++ record_in t e ∷ [] in
    let self : (t.number == t.number) ≡ true = eq-eqb t.number t.number refl in
    let among : list_any (λ s. s.tid == t.number) records ≡ true = list_any-append (λ s. s.tid == t.number) (committed_records above) (record_in t e ∷ []) ∙ or_right _ _ (or_left _ _ self) in (
      h.0,
      filter-append (λ s. s.tid == t.number) records later ∙ ap (λ xs. filter (λ s. s.tid == t.number) records ++ xs) (none_same t.number records later among new)
          ∙ append-nil _ ∙ h.1,
    )
commit_later base a above all later t r new h = h

-- the facts of a line that adds no record
facts : (base : Base) (a : Replied) (above : List Replied) (later : List Record) (t : Trace) (r : Reply) (lines : List Replied) → record_at r (Some t) ≡ [] →
    t.read ≤ last_epoch base.epoch (committed_records above ++ record_at r (Some t)) →
    list_all (λ s. nat_lt (last_epoch base.epoch (committed_records above ++ record_at r (Some t))) s.epoch) later ≡ true →
    are_new above later ≡ true → ((v n : ℕ) → is_held_elsewhere a lines v n ≡ false) →
    Facts t a above (committed_records above ++ record_at r (Some t)) later lines
facts base a above later t r lines none read rise new elsewhere = record {
  last = last_epoch base.epoch (committed_records above ++ record_at r (Some t));
  read = read;
  rise = rise;
  new = new;
  known = rw (none, append-nil) (all_known above (committed_records above) (each_among [] (committed_records above)));
  elsewhere = elsewhere;
}

hold_later : (base : Base) (a : Replied) (above all : List Replied) (later : List Record) (t : Option Trace) (q : Request) (r : Reply) →
    is_in_kind t q r ≡ true →
    ReadAtMost (last_epoch base.epoch (committed_records above ++ record_at r t)) t →
    list_all (λ s. nat_lt (last_epoch base.epoch (committed_records above ++ record_at r t)) s.epoch) later ≡ true →
    are_new above later ≡ true →
    list_all (λ x. not (list_any (λ s. s.tid == x.tid) (committed_records above ++ record_at r t))) later ≡ true →
    ((v n : ℕ) → is_held_elsewhere a (a ∷ above) v n ≡ false) →
    HoldsIn (RunWith base above a r t) t a above q r →
    HoldsIn (record { graph = base.graph; records = (committed_records above ++ record_at r t) ++ later; lines = all }) t a above q r
hold_later base a above all later None q r k read rise new other elsewhere h = tt
hold_later base a above all later (Some t) request.Commit r k read rise new other elsewhere h = commit_later base a above all later t r other h
hold_later base a above all later (Some t) (request.Get v) r k read rise new other elsewhere h =
    read_later base.graph t a above _ later (a ∷ above) all (facts base a above later t r (a ∷ above) (no_record (Some t) (request.Get v) r k refl) read rise new elsewhere) (query.Vertex v) r h
hold_later base a above all later (Some t) (request.Edge v l d) r k read rise new other elsewhere h =
    read_later base.graph t a above _ later (a ∷ above) all (facts base a above later t r (a ∷ above) (no_record (Some t) (request.Edge v l d) r k refl) read rise new elsewhere) (query.Edge v l d) r h
hold_later base a above all later (Some t) (request.Scan v l) r k read rise new other elsewhere h =
    read_later base.graph t a above _ later (a ∷ above) all (facts base a above later t r (a ∷ above) (no_record (Some t) (request.Scan v l) r k refl) read rise new elsewhere) (query.Scan v l) r h
hold_later base a above all later (Some t) (request.Labels v) r k read rise new other elsewhere h =
    read_later base.graph t a above _ later (a ∷ above) all (facts base a above later t r (a ∷ above) (no_record (Some t) (request.Labels v) r k refl) read rise new elsewhere) (query.Labels v) r h
hold_later base a above all later (Some t) (request.Vertex p) r k read rise new other elsewhere h =
    make_later base.graph t a above _ later (a ∷ above) all (facts base a above later t r (a ∷ above) (no_record (Some t) (request.Vertex p) r k refl) read rise new elsewhere) p r h
hold_later base a above all later (Some t) (request.Set v p) r k read rise new other elsewhere h =
    change_later base.graph t a above _ later (a ∷ above) all (facts base a above later t r (a ∷ above) (no_record (Some t) (request.Set v p) r k refl) read rise new elsewhere) (change.Set v p) r h
hold_later base a above all later (Some t) (request.Drop v) r k read rise new other elsewhere h =
    change_later base.graph t a above _ later (a ∷ above) all (facts base a above later t r (a ∷ above) (no_record (Some t) (request.Drop v) r k refl) read rise new elsewhere) (change.Drop v) r h
hold_later base a above all later (Some t) (request.Put v l d p) r k read rise new other elsewhere h =
    change_later base.graph t a above _ later (a ∷ above) all (facts base a above later t r (a ∷ above) (no_record (Some t) (request.Put v l d p) r k refl) read rise new elsewhere) (change.Put v l d p) r h
hold_later base a above all later (Some t) (request.Del v l d) r k read rise new other elsewhere h =
    change_later base.graph t a above _ later (a ∷ above) all (facts base a above later t r (a ∷ above) (no_record (Some t) (request.Del v l d) r k refl) read rise new elsewhere) (change.Del v l d) r h
hold_later base a above all later (Some t) request.Begin r k read rise new other elsewhere h = tt
hold_later base a above all later (Some t) request.Abort r k read rise new other elsewhere h = tt
hold_later base a above all later (Some t) (request.Compact v l) r k read rise new other elsewhere h = tt

line_later : (base : Base) (a : Replied) (above all : List Replied) → EachHoldsWhenGiven base (a ∷ above) → Grows base (a ∷ above) all → LineHolds (so_far base all) a above
line_later base a above all s g =
    let t = trace_of a above in
    let r = a.reply in
    let alone = before-one base a above s.0.phase s.0.worker s.1 in
    let given : HoldsIn (RunWith base above a r t) t a above a.request r = subst (λ b. HoldsIn (RunWith base above a r t) t a b a.request r) alone s.0.holds in
    let read = read_more _ _ t (epoch-grows base above a.request r t s.0.number) (read-at-most base a.phase a.session above s.1) in
    let held = hold_later base a above all g.later t a.request r s.0.kind read g.rise (new_less a above g.later g.new) (new_by_records (a ∷ above) g.later g.new)
    (λ v n. none_elsewhere base a v n (a ∷ above) s.0.phase s.0.worker s) given in
    subst (λ b. HoldsIn (so_far base all) t a b a.request r) (sym alone)
    (subst (λ rs. HoldsIn (record { graph = base.graph; records = rs; lines = all }) t a above a.request r) (sym g.is) held)

traces_from : (base : Base) (lines all : List Replied) → EachHoldsWhenGiven base lines → Grows base lines all → EachLine (LineHolds (so_far base all)) lines
traces_from base [] all s g = tt
traces_from base (a ∷ above) all s g = (line_later base a above all s g, traces_from base above all s.1 (grows-less base a above all s.0 g))

-- Each reply of one worker that held when it was given holds of all records.
pub traces_hold-one : (base : Base) (lines : List Replied) → EachHoldsWhenGiven base lines → EachLine (LineHolds (so_far base lines)) lines
traces_hold-one base lines s = traces_from base lines lines s (record { later = []; is = sym (append-nil (committed_records lines)); rise = refl; new = refl })
