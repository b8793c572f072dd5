-- One worker: the epochs that the replies tell.
use Rattle.std.proofs.Common.{◌≡◌, ℕ, ◌+◌, ◌≤◌, Bool, true, false, not, ◌&&◌, ◌||◌, List, [], ◌∷◌, ◌++◌, refl, sym, ◌∙◌, subst, inl, inr, arith, append-nil}
use Rattle.std.specs.Prelude.{◌==◌, nat_lt, nat_le, Option, Some, None}
use Rattle.std.specs.List.{list_any, list_all}
use Rattle.std.proofs.lemmas.Bool.{false≢true, ltb-true, leb-true, lt-ltb, le-leb, and_parts, and_from, or_cases, eqb-true}
use Rattle.std.proofs.lemmas.List.Folds.{list_all-append}
use Rattle.graph_model.specs.declared.record.Record.{Record}
use Rattle.graph_model.specs.declared.graph.Base.{Base}
use Rattle.graph_model.specs.Records.{last_epoch, changes_vertex}
use Rattle.request_text.specs.declared.request.Request.{Request}
use Rattle.request_text.specs.declared.request.Request.TheVariants as request
use Rattle.request_text.specs.declared.reply.Reply.{Reply}
use Rattle.request_text.specs.declared.reply.Reply.TheVariants as reply
use Rattle.graph_legal.specs.Lines.{Replied, EachLine, before}
use Rattle.graph_legal.specs.Traces.{Trace, trace_of, has_committed, has_committed_beside}
use Rattle.graph_legal.specs.Kinds.{is_in_kind}
use Rattle.graph_legal.specs.TraceOk.{Run, HoldsIn, IsConflict}
use Rattle.graph_legal.specs.Legal.{told_epoch, told_epochs, conflict_epoch, conflict_epochs, all_below, all_at_most, EpochHolds, EpochOrder}
use Rattle.graph_legal.specs.OneWorker.{record_at, record_in}
use Rattle.graph_legal.proofs.Owing.{EachHoldsWhenGiven, NumberHolds, committed_records, epoch_of, so_far}
use Rattle.graph_legal.proofs.Holding.{before-one, epoch-grows, last_epoch-push, Grows, grows-less}

at_most_more : (m n : ℕ) (xs : List ℕ) → m ≤ n → all_at_most m xs ≡ true → all_at_most n xs ≡ true
at_most_more m n [] le h = refl
at_most_more m n (x ∷ xs) le h =
    let parts = and_parts (nat_le x m) (all_at_most m xs) h in
    let at = leb-true x m parts.0 in
    and_from _ _ (le-leb x n (omega (arith, at, le))) (at_most_more m n xs le parts.1)

below_next : (n : ℕ) (xs : List ℕ) → all_at_most n xs ≡ true → all_below (n + 1) xs ≡ true
below_next n [] h = refl
below_next n (x ∷ xs) h =
    let parts = and_parts (nat_le x n) (all_at_most n xs) h in
    let at = leb-true x n parts.0 in
    and_from _ _ (lt-ltb x (n + 1) (omega (arith, at))) (below_next n xs parts.1)

-- ---- the records' epochs

abbrev pub epochs_at_most : ℕ → List Record → Bool
epochs_at_most n records = list_all (λ r. nat_le r.epoch n) records

epochs_more : (m n : ℕ) (records : List Record) → m ≤ n → epochs_at_most m records ≡ true → epochs_at_most n records ≡ true
epochs_more m n [] le h = refl
epochs_more m n (r ∷ records) le h =
    let parts = and_parts (nat_le r.epoch m) (epochs_at_most m records) h in
    let at = leb-true r.epoch m parts.0 in
    and_from _ _ (le-leb r.epoch n (omega (arith, at, le))) (epochs_more m n records le parts.1)

added_epoch : (base : Base) (above : List Replied) (q : Request) (r : Reply) (t : Option Trace) → NumberHolds base above q r →
    epochs_at_most (epoch_of base above) (committed_records above) ≡ true →
    epochs_at_most (last_epoch base.epoch (committed_records above ++ record_at r t)) (committed_records above ++ record_at r t) ≡ true
added_epoch base above q (reply.Committed e) (Some t) h past =
    let last = last_epoch-push base.epoch (committed_records above) (record_in t e) in
    let grows = epoch-grows base above q (reply.Committed e) (Some t) h in
    list_all-append (λ r. nat_le r.epoch (last_epoch base.epoch (committed_records above ++ record_in t e ∷ []))) (committed_records above) (record_in t e ∷ [])
    ∙ and_from _ _ (epochs_more _ _ (committed_records above) grows past) (and_from _ _ (le-leb e _ (omega (arith, last))) refl)
added_epoch base above q (reply.Committed e) None h past = rw append-nil past
added_epoch base above q r t h past = rw append-nil past

pub epochs-one : (base : Base) (lines : List Replied) → EachHoldsWhenGiven base lines → epochs_at_most (epoch_of base lines) (committed_records lines) ≡ true
epochs-one base [] s = refl
epochs-one base (a ∷ above) s = added_epoch base above a.request a.reply (trace_of a above) s.0.number (epochs-one base above s.1)

-- ---- the epochs that are told

told_reply : (base : Base) (above : List Replied) (q : Request) (r : Reply) (t : Option Trace) → NumberHolds base above q r → is_in_kind t q r ≡ true →
    all_at_most (epoch_of base above) (told_epochs above) ≡ true →
    all_at_most (last_epoch base.epoch (committed_records above ++ record_at r t)) (told_epoch r ++ told_epochs above) ≡ true
told_reply base above q (reply.Begun n e) t h k past =
    let grows = epoch-grows base above q (reply.Begun n e) t h in
    and_from _ _ (le-leb e _ (omega (arith, h.2, grows))) (at_most_more _ _ (told_epochs above) grows past)
told_reply base above q (reply.Committed e) (Some t) h k past =
    let last = last_epoch-push base.epoch (committed_records above) (record_in t e) in
    let grows = epoch-grows base above q (reply.Committed e) (Some t) h in
    and_from _ _ (le-leb e _ (omega (arith, last))) (at_most_more _ _ (told_epochs above) grows past)
told_reply base above request.Begin (reply.Committed e) None h k past = absurd (false≢true k)
told_reply base above (request.Compact v l) (reply.Committed e) None h k past = absurd (false≢true k)
told_reply base above q (reply.Committed e) None h k past = absurd (false≢true k)
told_reply base above q r t h k past = at_most_more _ _ (told_epochs above) (epoch-grows base above q r t h) past

pub told-one : (base : Base) (lines : List Replied) → EachHoldsWhenGiven base lines → all_at_most (epoch_of base lines) (told_epochs lines) ≡ true
told-one base [] s = refl
told-one base (a ∷ above) s = told_reply base above a.request a.reply (trace_of a above) s.0.number s.0.kind (told-one base above s.1)

-- ---- the epochs in conflicts are those of records

any_first : (p q : Record → Bool) (records : List Record) → list_any (λ r. p r && q r) records ≡ true → list_any p records ≡ true
any_first p q [] h = h
any_first p q (r ∷ records) h = elim (p r) as (λ b. ((b && q r) || list_any (λ x. p x && q x) records) ≡ true → (b || list_any p records) ≡ true) [
  | true ↦ λ e. refl
  | false ↦ λ e. any_first p q records e
] h

epoch_known : (e n : ℕ) (records : List Record) → list_any (λ r. r.epoch == e) records ≡ true → epochs_at_most n records ≡ true → e ≤ n
epoch_known e n [] h all = absurd (false≢true h)
epoch_known e n (r ∷ records) h all =
    let parts = and_parts (nat_le r.epoch n) (epochs_at_most n records) all in
    let at = leb-true r.epoch n parts.0 in
    elim (or_cases (r.epoch == e) (list_any (λ x. x.epoch == e) records) h) [
      | inl same ↦ let is = eqb-true r.epoch e same in omega (arith, at, is)
      | inr rest ↦ epoch_known e n records rest parts.1
    ]

conflict_known : (run : Run) (t : Trace) (a : Replied) (before : List Replied) (v e : ℕ) → IsConflict run t a before v e → list_any (λ r. r.epoch == e) run.records ≡ true
conflict_known run t a before v e h =
    any_first (λ r. r.epoch == e) (λ r. changes_vertex v r) run.records
    (any_first (λ r. r.epoch == e && changes_vertex v r) (λ r. has_committed r.tid before || not (has_committed_beside a r.tid run.lines)) run.records h.changed)

conflict_reply : (run : Run) (t : Option Trace) (a : Replied) (before : List Replied) (q : Request) (v e : ℕ) → is_in_kind t q (reply.Conflict v e) ≡ true →
    HoldsIn run t a before q (reply.Conflict v e) → list_any (λ r. r.epoch == e) run.records ≡ true
conflict_reply run (Some t) a before (request.Set w p) v e k h = conflict_known run t a before v e h.2
conflict_reply run (Some t) a before (request.Drop w) v e k h = conflict_known run t a before v e h.2
conflict_reply run (Some t) a before (request.Put w l d p) v e k h = conflict_known run t a before v e h.2
conflict_reply run (Some t) a before (request.Del w l d) v e k h = conflict_known run t a before v e h.2
conflict_reply run (Some t) a before q v e k h = absurd (false≢true k)
conflict_reply run None a before request.Begin v e k h = absurd (false≢true k)
conflict_reply run None a before q v e k h = absurd (false≢true k)

conflicts_reply : (base : Base) (a : Replied) (above before : List Replied) (q : Request) (r : Reply) (t : Option Trace) → NumberHolds base above q r → is_in_kind t q r ≡ true →
    HoldsIn (record { graph = base.graph; records = committed_records above ++ record_at r t; lines = a ∷ above }) t a before q r →
    epochs_at_most (epoch_of base above) (committed_records above) ≡ true →
    all_at_most (epoch_of base above) (conflict_epochs above) ≡ true →
    all_at_most (last_epoch base.epoch (committed_records above ++ record_at r t)) (conflict_epoch r ++ conflict_epochs above) ≡ true
conflicts_reply base a above before q (reply.Conflict v e) t num k h known past =
    let among = conflict_reply _ t a before q v e k h in
    let at : e ≤ epoch_of base above = epoch_known e (epoch_of base above) (committed_records above) (rw append-nil at among) known in
    subst (λ rs. all_at_most (last_epoch base.epoch rs) (e ∷ conflict_epochs above) ≡ true) (sym (append-nil (committed_records above))) (and_from _ _ (le-leb e (epoch_of base above) at) past)
conflicts_reply base a above before q r t num k h known past = at_most_more _ _ (conflict_epochs above) (epoch-grows base above q r t num) past

pub conflicts-one : (base : Base) (lines : List Replied) → EachHoldsWhenGiven base lines → all_at_most (epoch_of base lines) (conflict_epochs lines) ≡ true
conflicts-one base [] s = refl
conflicts-one base (a ∷ above) s =
    conflicts_reply base a above (before a above) a.request a.reply (trace_of a above) s.0.number s.0.kind s.0.holds (epochs-one base above s.1) (conflicts-one base above s.1)

-- ---- the order of epochs

pub base_epoch-one : (base : Base) (lines : List Replied) → EachHoldsWhenGiven base lines → base.epoch ≤ epoch_of base lines
base_epoch-one base [] s = omega arith
base_epoch-one base (a ∷ above) s =
    let grows = epoch-grows base above a.request a.reply (trace_of a above) s.0.number in
    let past = base_epoch-one base above s.1 in
    omega (arith, grows, past)

last_later : (n : ℕ) (records later : List Record) → last_epoch n (records ++ later) ≡ last_epoch (last_epoch n records) later
last_later n [] later = refl
last_later n (r ∷ records) later = last_later r.epoch records later

last_rise : (m n : ℕ) (later : List Record) → m ≤ n → list_all (λ r. nat_lt m r.epoch) later ≡ true → m ≤ last_epoch n later
last_rise m n [] le h = le
last_rise m n (r ∷ later) le h =
    let parts = and_parts (nat_lt m r.epoch) (list_all (λ x. nat_lt m x.epoch) later) h in
    let lt = ltb-true m r.epoch parts.0 in
    last_rise m r.epoch later (omega (arith, lt)) parts.1

pub epoch_later : (base : Base) (lines all : List Replied) → Grows base lines all → epoch_of base lines ≤ epoch_of base all
epoch_later base lines all g =
    subst (λ rs. epoch_of base lines ≤ last_epoch base.epoch rs) (sym g.is)
    (rw (last_later base.epoch (committed_records lines) g.later) (last_rise (epoch_of base lines) (epoch_of base lines) g.later (omega arith) g.rise))

epoch_reply : (base : Base) (above : List Replied) (last : ℕ) (q : Request) (r : Reply) → NumberHolds base above q r → epoch_of base above ≤ last → base.epoch ≤ epoch_of base above →
    all_at_most (epoch_of base above) (told_epochs above) ≡ true → all_at_most (epoch_of base above) (conflict_epochs above) ≡ true →
    EpochHolds base.epoch last r above
epoch_reply base above last q (reply.Begun n e) h le first told conflicts =
    (omega (arith, h.2, first), rw h.2 told, omega (arith, h.2, le))
epoch_reply base above last q (reply.Committed e) h le first told conflicts =
    rw h (list_all-append _ (told_epochs above) (conflict_epochs above) ∙ and_from _ _ (below_next (epoch_of base above) (told_epochs above) told) (below_next (epoch_of base above) (conflict_epochs above) conflicts))
epoch_reply base above last q r h le first told conflicts = tt

epochs_from : (base : Base) (lines all : List Replied) → EachHoldsWhenGiven base lines → Grows base lines all →
    EachLine (λ a above. EpochHolds base.epoch (epoch_of base all) a.reply (before a above)) lines
epochs_from base [] all s g = tt
epochs_from base (a ∷ above) all s g =
    let less = grows-less base a above all s.0 g in (
      rw (before-one base a above s.0.phase s.0.worker s.1)
          (epoch_reply base above (epoch_of base all) a.request a.reply s.0.number (epoch_later base above all less) (base_epoch-one base above s.1) (told-one base above s.1) (conflicts-one base above s.1)),
      epochs_from base above all s.1 less,
    )

pub epoch_order-one : (base : Base) (lines : List Replied) → EachHoldsWhenGiven base lines → EpochOrder base (so_far base lines)
epoch_order-one base lines s = epochs_from base lines lines s (record { later = []; is = sym (append-nil (committed_records lines)); rise = refl; new = refl })
