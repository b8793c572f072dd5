-- The records of a failed group stay those of failed transactions.
use Rattle.std.proofs.Common.{◌≡◌, ◌≢◌, ◌⊎◌, inl, inr, ℕ, ◌+◌, Bool, true, false, ◌&&◌, not, List, [], ◌∷◌, ◌++◌, length, refl, sym, ap, ◌∙◌, subst, Option, Some, None, is_some, ⊎_elim}
use Rattle.std.proofs.lemmas.Bool.{and_parts, true≢false, false≢true}
use Rattle.std.specs.Prelude.{if◌then◌else◌, ◌==◌, nat_lt, nat_le}
use Rattle.graph_model.specs.declared.graph.Base.{Base}
use Rattle.graph_model.specs.declared.change.Change.{Change}
use Rattle.graph_model.specs.declared.change.Change.TheVariants.{New, Set, Drop, Put, Del}
use Rattle.graph_model.specs.declared.record.Record.{Record}
use Rattle.graph_model.specs.declared.record.Outcome.{Outcome}
use Rattle.graph_model.specs.declared.record.Outcome.TheVariants.{Committed, Failed}
use Rattle.graph_model.specs.Records.{number_end, has_destination}
use Rattle.vertex_locks.specs.declared.answer.Look.{Look}
use Rattle.vertex_locks.specs.declared.answer.Look.TheVariants.{Taken, Held, Conflict}
use Rattle.core_rows.specs.Rows.{Row, lock_answer}
use Rattle.core_states.specs.declared.actor.Actor.{Actor}
use Rattle.core_states.specs.declared.clock.Clock.{Clock}
use Rattle.core_states.specs.declared.event.Act.{Act}
use Rattle.core_states.specs.declared.event.Act.TheVariants as act
use Rattle.core_states.specs.declared.event.CoreAnswer.{CoreAnswer}
use Rattle.core_states.specs.declared.event.Reach.{Reach}
use Rattle.core_states.specs.declared.event.Reach.TheVariants as reach
use Rattle.core_states.specs.declared.transaction.End.TheVariants.{Faulted}
use Rattle.core_states.specs.declared.transaction.Receipt.{Receipt}
use Rattle.core_states.specs.declared.transaction.Stage.{Stage}
use Rattle.core_states.specs.declared.transaction.Stage.TheVariants.{Open, Queued, Decided}
use Rattle.core_states.specs.declared.transaction.Transaction.{Transaction}
use Rattle.core_kept.specs.Bounds.{Kept}
use Rattle.core_states.specs.ClockEvents.{ClockMove, for_txn, for_none, done_at, sees}
use Rattle.core_states.specs.Enabled.{is_enabled}
use Rattle.core_states.specs.Faults.{RunsWith, FaultedWith, FailedAs}
use Rattle.core_kept.specs.Good.{Ghost, Place, InFault, InGroup, Good, StageOk, Waits, AllWait, outcome_at, In}
use Rattle.core_states.specs.LogParts.{LogPart, is_held_by, may_take}
use Rattle.core_states.specs.LogEvents.{LogMove, GroupMove, told, without_group}
use Rattle.core_states.specs.Names.{Name, set_name}
use Rattle.core_states.specs.Numbers.{all_in, has_number, has_record, outcome_of, settled_as}
use Rattle.core_states.specs.RowEvents.{RowMove, Limits, has_vertex, is_long, refusal, by_refusal, by_look, changes, looks_by, applies_at}
use Rattle.core_states.specs.Laters.{ReceiptsStay}
use Rattle.core_states.specs.Sound.{InReceipts}
use Rattle.core_states.specs.States.{State, clock_event, row_event, log_event, group_event, reach_of, after_clock, after_row, after_log, after_group, after_at, after}
use Rattle.core_states.specs.Transactions.{is_open, is_queued, is_loser, is_working, holds, won_epoch, after_outcome, receipt_of, end_of, with_stage}
use Rattle.core_kept.proofs.Beginning.{none_some}
use Rattle.core_kept.proofs.Durable.{kept_first}
use Rattle.core_kept.proofs.GroupSteps.{if_log, if_group, not_false}
use Rattle.core_kept.proofs.Grouping.{wait_place}
use Rattle.core_states.proofs.Names.{some_is, cases_name, set_name_here, set_name_there}
use Rattle.core_kept.proofs.OnRows.{won_is}
use Rattle.core_kept.proofs.Publishing.{outcome_of-append, outcome_of-settled}
use Rattle.core_laws.proofs.Sounds.{place_failed}

-- ---- what a move of an actor leaves of a transaction whose record was queued

-- it goes on with the same record, or has a receipt
record GoesOn (x : Transaction) (b : Actor) : Type 0 where
  txn : Transaction
  runs : b.txn ≡ Some txn
  queued : is_open txn.stage ≡ false
  number : txn.tid ≡ x.tid
  read : txn.read ≡ x.read
  changes : txn.own ≡ x.own

record Receives (x : Transaction) (b : Actor) : Type 0 where
  receipt : Receipt
  among : InReceipts receipt b.receipts
  number : receipt.tid ≡ x.tid
  read : receipt.read ≡ x.read
  changes : receipt.changes ≡ x.own
  queued : x.stage ≢ Queued
  ends : (f c : ℕ) → x.stage ≡ Decided (Failed f c) → receipt.ends ≡ Faulted f c

abbrev Follows : Actor → Actor → Type 0
Follows a b = ((u : Receipt) → InReceipts u a.receipts → InReceipts u b.receipts)
    × ((x : Transaction) → a.txn ≡ Some x → is_open x.stage ≡ false → ((n : ℕ) → x.stage ≡ Decided (Committed n) → ⊥) → GoesOn x b ⊎ Receives x b)

-- a transaction that stays as it is
follows_same : (a b : Actor) → b.txn ≡ a.txn → b.receipts ≡ a.receipts → Follows a b
follows_same a b same receipts = (λ u m. subst (InReceipts u) (sym receipts) m, λ x at unqueued won. inl (record { txn = x; runs = same ∙ at; queued = unqueued; number = refl; read = refl; changes = refl }))

-- one that works has no queued record
follows_work : (a b : Actor) (x : Transaction) → a.txn ≡ Some x → is_working x ≡ true → b.receipts ≡ a.receipts → Follows a b
follows_work a b x at works receipts = (λ u m. subst (InReceipts u) (sym receipts) m, λ y is unqueued won. absurd (true≢false (sym (and_parts (is_open x.stage) (length x.settled == 0) works).0 ∙ ap (λ (z : Transaction). is_open z.stage) (some_is x y (sym at ∙ is)) ∙ unqueued)))

-- one that moves on with its record
follows_on : (a b : Actor) (x y : Transaction) → a.txn ≡ Some x → b.txn ≡ Some y → y.tid ≡ x.tid → y.read ≡ x.read → y.own ≡ x.own → (is_open x.stage ≡ false → is_open y.stage ≡ false) → b.receipts ≡ a.receipts → Follows a b
follows_on a b x y at now tid read own unqueued receipts = (
  λ u m. subst (InReceipts u) (sym receipts) m,
  λ z is not_open won. let same = some_is x z (sym at ∙ is) in
      inl (record { txn = y; runs = now; queued = unqueued (ap (λ (t : Transaction). is_open t.stage) same ∙ not_open); number = tid ∙ ap (λ (t : Transaction). t.tid) same; read = read ∙ ap (λ (t : Transaction). t.read) same; changes = own ∙ ap (λ (t : Transaction). t.own) same }),
)

-- ---- each event

abbrev Clocked : Actor → Option ClockMove → Type 0
Clocked a None = Unit {0}
Clocked a (Some m) = Follows a m.actor

if_clock : (a : Actor) (b : Bool) (m n : Option ClockMove) → (b ≡ true → Clocked a m) → (b ≡ false → Clocked a n) → Clocked a (if b then m else n)
if_clock a true m n x y = x refl
if_clock a false m n x y = y refl

for_clock : (a : Actor) (f : Transaction → Option ClockMove) (o : Option Transaction) → ((x : Transaction) → o ≡ Some x → Clocked a (f x)) → Clocked a (for_txn f o)
for_clock a f None h = tt
for_clock a f (Some x) h = h x refl

none_clock : (a : Actor) (m : Option ClockMove) (o : Option Transaction) → (o ≡ None → Clocked a m) → Clocked a (for_none m o)
none_clock a m None h = h refl
none_clock a m (Some x) h = tt

heard : (x : Transaction) (o : Option Outcome) → ((after_outcome x o).tid ≡ x.tid) × ((after_outcome x o).read ≡ x.read) × ((after_outcome x o).own ≡ x.own) × (is_open x.stage ≡ false → is_open (after_outcome x o).stage ≡ false)
heard x None = (refl, refl, refl, λ e. e)
heard x (Some o) = (refl, refl, refl, λ e. refl)

done_clock : (o : Option ℕ) (x : Transaction) (k : Clock) (a : Actor) → a.txn ≡ Some x → won_epoch x.stage ≡ o → Clocked a (done_at o x k a)
done_clock None x k a at is = tt
done_clock (Some e) x k a at is = if_clock a (all_in x.touched x.settled) _ None
    (λ _. (λ u m. inr m, λ y same unqueued won. absurd (won e (ap (λ (z : Transaction). z.stage) (sym (some_is x y (sym at ∙ same))) ∙ won_is x.stage e is)))) (λ _. tt)

sees_clock : (o : Option ℕ) (k : Clock) (a : Actor) → Clocked a (sees o k a)
sees_clock None k a = tt
sees_clock (Some e) k a = follows_same a _ refl refl

queued_loser : (stage : Stage) → is_loser stage ≡ true → stage ≡ Queued → ⊥
queued_loser stage e q = false≢true (sym (ap is_loser q) ∙ e)

ends_clock : (x : Transaction) (k : Clock) (a : Actor) → a.txn ≡ Some x → Clocked a (Rattle.core_states.specs.ClockEvents.ends x k a)
ends_clock x k a at = if_clock a (is_loser x.stage && all_in x.touched x.settled) _ None
    (λ both. (
      λ u m. inr m,
      λ y same unqueued won.
          let is = some_is x y (sym at ∙ same) in
          inr (record {
            receipt = receipt_of x (end_of x.stage a.looked);
            among = inl refl;
            number = ap (λ (z : Transaction). z.tid) is;
            read = ap (λ (z : Transaction). z.read) is;
            changes = ap (λ (z : Transaction). z.own) is;
            queued = λ q. queued_loser x.stage (and_parts (is_loser x.stage) (all_in x.touched x.settled) both).0 (ap (λ (z : Transaction). z.stage) is ∙ q);
            ends = λ f c d. ap (λ g. end_of g a.looked) (ap (λ (z : Transaction). z.stage) is ∙ d);
          }),
    )) (λ _. tt)

clocked : (action : Act) (k : Clock) (a : Actor) → Clocked a (clock_event action k a)
clocked act.Open k a = if_clock a a.row None _ (λ _. tt) (λ _. follows_same a _ refl refl)
clocked act.Close k a = none_clock a _ a.txn (λ _. if_clock a a.row _ None (λ _. follows_same a _ refl refl) (λ _. tt))
clocked act.Begin k a = none_clock a _ a.txn (λ idle. if_clock a (not a.row) None _ (λ _. tt) (λ _. if_clock a (k.next_tid == number_end) _ _ (λ _. follows_same a _ (sym idle) refl) (λ _. (λ u m. m, λ x is unqueued won. absurd (none_some x (sym idle ∙ is))))))
clocked act.Draw k a = for_clock a _ a.txn (λ x at. if_clock a (not (is_working x)) None _ (λ _. tt) (λ w. if_clock a (k.next_vertex == number_end) _ _ (λ _. follows_work a _ x at (not_false (is_working x) w) refl) (λ _. follows_work a _ x at (not_false (is_working x) w) refl)))
clocked act.Enqueue k a = for_clock a _ a.txn (λ x at. if_clock a (not (is_working x)) None _ (λ _. tt) (λ w. if_clock a (length x.own == 0) None _ (λ _. tt) (λ _. follows_work a _ x at (not_false (is_working x) w) refl)))
clocked act.Collect k a = tt
clocked act.Publish k a = tt
clocked (act.Fail f c) k a = tt
clocked act.Outcome k a = for_clock a _ a.txn (λ x at. if_clock a (not (is_queued x.stage)) None _ (λ _. tt) (λ _. let h = heard x (outcome_of x.tid k.outcomes) in follows_on a _ x _ at refl h.0 h.1 h.2 h.3 refl))
clocked act.Done k a = for_clock a _ a.txn (λ x at. done_clock (won_epoch x.stage) x k a at refl)
clocked act.Seen k a = none_clock a _ a.txn (λ _. sees_clock a.finished k a)
clocked act.End k a = for_clock a _ a.txn (λ x at. ends_clock x k a at)
clocked act.Horizon k a = follows_same a _ refl refl
clocked (act.Look v) k a = tt
clocked (act.Put v l d p) k a = tt
clocked (act.Del v l d) k a = tt
clocked (act.Set v p) k a = tt
clocked (act.Drop v) k a = tt
clocked (act.New v p) k a = tt
clocked (act.Read q) k a = tt
clocked (act.Apply v) k a = tt
clocked (act.Undo v) k a = tt
clocked (act.WriteGroup m) k a = tt
clocked act.Mend k a = tt

abbrev Rowed : Actor → Option RowMove → Type 0
Rowed a None = Unit {0}
Rowed a (Some m) = Follows a m.actor

if_row : (a : Actor) (b : Bool) (m n : Option RowMove) → (b ≡ true → Rowed a m) → (b ≡ false → Rowed a n) → Rowed a (if b then m else n)
if_row a true m n x y = x refl
if_row a false m n x y = y refl

for_row : (a : Actor) (f : Transaction → Option RowMove) (o : Option Transaction) → ((x : Transaction) → o ≡ Some x → Rowed a (f x)) → Rowed a (for_txn f o)
for_row a f None h = tt
for_row a f (Some x) h = h x refl

refusal_row : (o : Option CoreAnswer) (x : Transaction) (c : Change) (row : Row) (a : Actor) → a.txn ≡ Some x → is_working x ≡ true → Rowed a (by_refusal o x c row a)
refusal_row None x c row a at w = follows_work a _ x at w refl
refusal_row (Some r) x c row a at w = follows_work a _ x at w refl

look_row : (l : Look) (most : Limits) (x : Transaction) (c : Change) (row : Row) (a : Actor) → a.txn ≡ Some x → is_working x ≡ true → Rowed a (by_look l most x c row a)
look_row Taken most x c row a at w = refusal_row (refusal most x c row) x c row a at w
look_row (Held u) most x c row a at w = tt
look_row (Conflict e) most x c row a at w = tt

looked_row : (l : Look) (x : Transaction) (v : ℕ) (row : Row) (a : Actor) → a.txn ≡ Some x → is_working x ≡ true → Rowed a (looks_by l x v row a)
looked_row Taken x v row a at w = tt
looked_row (Held u) x v row a at w = follows_work a _ x at w refl
looked_row (Conflict e) x v row a at w = follows_work a _ x at w refl

applied_row : (o : Option ℕ) (x : Transaction) (v : ℕ) (row : Row) (a : Actor) → a.txn ≡ Some x → Rowed a (applies_at o x v row a)
applied_row None x v row a at = tt
applied_row (Some e) x v row a at = if_row a (holds x v) _ None (λ _. follows_on a _ x _ at refl refl refl refl (λ e. e) refl) (λ _. tt)

changes_row : (most : Limits) (x : Transaction) (c : Change) (row : Row) (a : Actor) → a.txn ≡ Some x → Rowed a (changes most x c row a)
changes_row most x c row a at = if_row a (not (is_working x)) None _ (λ _. tt) (λ w. let works = not_false (is_working x) w in
    if_row a (not (has_vertex x row)) _ _ (λ _. follows_work a _ x at works refl) (λ _. look_row (lock_answer row x.tid x.read) most x c row a at works))

rowed : (most : Limits) (action : Act) (row : Row) (a : Actor) → Rowed a (row_event most action row a)
rowed most act.Open row a = tt
rowed most act.Close row a = tt
rowed most act.Begin row a = tt
rowed most act.Draw row a = tt
rowed most act.Enqueue row a = tt
rowed most act.Collect row a = tt
rowed most act.Publish row a = tt
rowed most (act.Fail f c) row a = tt
rowed most act.Outcome row a = tt
rowed most act.Done row a = tt
rowed most act.Seen row a = tt
rowed most act.End row a = tt
rowed most act.Horizon row a = tt
rowed most (act.Look v) row a = for_row a _ a.txn (λ x at. if_row a (not (is_working x)) None _ (λ _. tt) (λ w. if_row a (not (has_vertex x row)) None _ (λ _. tt) (λ _. looked_row (lock_answer row x.tid x.read) x v row a at (not_false (is_working x) w))))
rowed most (act.Put v l d p) row a = for_row a _ a.txn (λ x at. if_row a (has_destination (Put v l d p)) _ None (λ _. changes_row most x (Put v l d p) row a at) (λ _. tt))
rowed most (act.Del v l d) row a = for_row a _ a.txn (λ x at. changes_row most x (Del v l d) row a at)
rowed most (act.Set v p) row a = for_row a _ a.txn (λ x at. changes_row most x (Set v p) row a at)
rowed most (act.Drop v) row a = for_row a _ a.txn (λ x at. changes_row most x (Drop v) row a at)
rowed most (act.New v p) row a = for_row a _ a.txn (λ x at. if_row a (not (is_working x)) None _ (λ _. tt) (λ w. if_row a (not (has_number v x.drawn)) None _ (λ _. tt) (λ _. if_row a (is_long most x (New v p)) _ _ (λ _. follows_work a _ x at (not_false (is_working x) w) refl) (λ _. follows_work a _ x at (not_false (is_working x) w) refl))))
rowed most (act.Read q) row a = for_row a _ a.txn (λ x at. if_row a (not (is_working x)) None _ (λ _. tt) (λ w. follows_work a _ x at (not_false (is_working x) w) refl))
rowed most (act.Apply v) row a = for_row a _ a.txn (λ x at. applied_row (won_epoch x.stage) x v row a at)
rowed most (act.Undo v) row a = for_row a _ a.txn (λ x at. if_row a (is_loser x.stage && holds x v) _ None (λ _. follows_on a _ x _ at refl refl refl refl (λ e. e) refl) (λ _. tt))
rowed most (act.WriteGroup m) row a = tt
rowed most act.Mend row a = tt

abbrev Logged : Actor → Option LogMove → Type 0
Logged a None = Unit {0}
Logged a (Some m) = Follows a m.actor

logged : (action : Act) (i : Name) (log : LogPart) (a : Actor) → Logged a (log_event action i log a)
logged act.Open i log a = tt
logged act.Close i log a = tt
logged act.Begin i log a = tt
logged act.Draw i log a = tt
logged act.Enqueue i log a = tt
logged act.Collect i log a = tt
logged act.Publish i log a = tt
logged (act.Fail f c) i log a = tt
logged act.Outcome i log a = tt
logged act.Done i log a = tt
logged act.Seen i log a = tt
logged act.End i log a = tt
logged act.Horizon i log a = tt
logged (act.Look v) i log a = tt
logged (act.Put v l d p) i log a = tt
logged (act.Del v l d) i log a = tt
logged (act.Set v p) i log a = tt
logged (act.Drop v) i log a = tt
logged (act.New v p) i log a = tt
logged (act.Read q) i log a = tt
logged (act.Apply v) i log a = tt
logged (act.Undo v) i log a = tt
logged (act.WriteGroup m) i log a = if_log (Logged a) (not (is_held_by i log.holder)) None _ (λ _. tt) (λ _. if_log (Logged a) a.written None _ (λ _. tt) (λ _. if_log (Logged a) (not log.mended) None _ (λ _. tt) (λ _. if_log (Logged a) (nat_lt m log.moment) None _ (λ _. tt) (λ _. follows_same a _ refl refl))))
logged act.Mend i log a = if_log (Logged a) log.mended None _ (λ _. tt) (λ _. if_log (Logged a) (not (may_take i log.holder)) None _ (λ _. tt) (λ _. follows_same a _ refl refl))

told_follows : (o : Outcome) (a : Actor) (t : Option Transaction) → a.txn ≡ t → Follows a (without_group o a)
told_follows o a None at = (λ u m. m, λ x is unqueued won. absurd (none_some x (sym at ∙ is)))
told_follows o a (Some x) at = by_test (has_record x.tid a.group) refl
  where
    by_test : (b : Bool) → has_record x.tid a.group ≡ b → Follows a (without_group o a)
    by_test true h = follows_on a (without_group o a) x (with_stage x (Decided o)) at (ap (told o a.group) at ∙ rw h refl) refl refl refl (λ e. refl) refl
    by_test false h = follows_on a (without_group o a) x x at (ap (told o a.group) at ∙ rw h refl) refl refl refl (λ e. e) refl

abbrev Grouped : Clock → Actor → Option GroupMove → Type 0
Grouped k a None = Unit {0}
Grouped k a (Some m) = Follows a m.actor × ((t : ℕ) (o : Outcome) → outcome_of t k.outcomes ≡ Some o → outcome_of t m.clock.outcomes ≡ Some o)

grouped : (action : Act) (i : Name) (log : LogPart) (k : Clock) (a : Actor) → Grouped k a (group_event action i log k a)
grouped act.Open i log k a = tt
grouped act.Close i log k a = tt
grouped act.Begin i log k a = tt
grouped act.Draw i log k a = tt
grouped act.Enqueue i log k a = tt
grouped act.Collect i log k a = if_group (Grouped k a) (is_some log.holder) None _ (λ _. tt) (λ _. if_group (Grouped k a) (length k.queue == 0) None _ (λ _. tt) (λ _. (follows_same a _ refl refl, λ t o is. is)))
grouped act.Publish i log k a = if_group (Grouped k a) (not (is_held_by i log.holder)) None _ (λ _. tt) (λ _. if_group (Grouped k a) (not a.written) None _ (λ _. tt) (λ _. (told_follows (Committed (k.last + 1)) a a.txn refl, λ t o is. kept_first t o k.outcomes _ is)))
grouped (act.Fail f c) i log k a = if_group (Grouped k a) (not (is_held_by i log.holder)) None _ (λ _. tt) (λ _. if_group (Grouped k a) a.written None _ (λ _. tt) (λ _. if_group (Grouped k a) (not (nat_lt f c && nat_le log.greatest f)) None _ (λ _. tt) (λ _. (told_follows (Failed f c) a a.txn refl, λ t o is. kept_first t o k.outcomes _ is))))
grouped act.Outcome i log k a = tt
grouped act.Done i log k a = tt
grouped act.Seen i log k a = tt
grouped act.End i log k a = tt
grouped act.Horizon i log k a = tt
grouped (act.Look v) i log k a = tt
grouped (act.Put v l d p) i log k a = tt
grouped (act.Del v l d) i log k a = tt
grouped (act.Set v p) i log k a = tt
grouped (act.Drop v) i log k a = tt
grouped (act.New v p) i log k a = tt
grouped (act.Read q) i log k a = tt
grouped (act.Apply v) i log k a = tt
grouped (act.Undo v) i log k a = tt
grouped (act.WriteGroup m) i log k a = tt
grouped act.Mend i log k a = tt

-- ---- the whole state

-- the record is that of a failed transaction, after one actor moved
moved : (base : Base) (g : Ghost) (s z : State) (i : Name) (a : Actor) (f c : ℕ) (r : Record) → Good base g s → z.actor ≡ set_name s.actor i a → Follows (s.actor i) a → outcome_of r.tid s.clock.outcomes ≡ Some (Failed f c)
    → RunsWith s r ⊎ FaultedWith s r f c → RunsWith z r ⊎ FaultedWith z r f c
moved base g s z i a f c r good now follows kept (inr h) = inr (record {
  actor = h.actor;
  receipt = h.receipt;
  among = subst (λ (actor : Name → Actor). InReceipts h.receipt (actor h.actor).receipts) (sym now) (⊎_elim
      (λ (e : h.actor ≡ i). subst (λ (b : Actor). InReceipts h.receipt b.receipts) (sym (set_name_here s.actor i a h.actor e)) (follows.0 h.receipt (subst (λ j. InReceipts h.receipt (s.actor j).receipts) e h.among)))
      (λ (n : h.actor ≢ i). subst (λ (b : Actor). InReceipts h.receipt b.receipts) (sym (set_name_there s.actor i a h.actor n)) h.among)
      (cases_name h.actor i));
  number = h.number;
  read = h.read;
  changes = h.changes;
  ends = h.ends;
})
moved base g s z i a f c r good now follows kept (inl h) = ⊎_elim here there (cases_name h.actor i)
  where
    place : g.place h.txn.tid ≡ InFault f c
    place = ap g.place h.number ∙ place_failed (g.place r.tid) f c (sym (good.outcomes r.tid) ∙ kept)

    stage : StageOk h.txn.stage h.txn.settled (InFault f c)
    stage = subst (StageOk h.txn.stage h.txn.settled) place (good.txns h.actor h.txn h.runs).stage

    not_won : (n : ℕ) → h.txn.stage ≡ Decided (Committed n) → ⊥
    not_won n e = in_log n (subst (λ (y : Stage). StageOk y h.txn.settled (InFault f c)) e stage)
      where
        in_log : (n : ℕ) → StageOk (Decided (Committed n)) h.txn.settled (InFault f c) → ⊥
        in_log n q = (cc)

    lost : h.txn.stage ≢ Queued → h.txn.stage ≡ Decided (Failed f c)
    lost q = by_stage h.txn.stage refl
      where
        fault_is : (d e : ℕ) → InFault f c ≡ InFault d e → Decided (Failed d e) ≡ Decided (Failed f c)
        fault_is d e q = let x : f ≡ d = (cc) in let y : c ≡ e = (cc) in λ k. Decided (Failed (sym x k) (sym y k))

        by_stage : (y : Stage) → h.txn.stage ≡ y → h.txn.stage ≡ Decided (Failed f c)
        by_stage Open e = absurd (true≢false (sym (ap is_open e) ∙ h.queued))
        by_stage Queued e = absurd (q e)
        by_stage (Decided (Committed n)) e = absurd (not_won n e)
        by_stage (Decided (Failed d b)) e = e ∙ fault_is d b (subst (λ (y : Stage). StageOk y h.txn.settled (InFault f c)) e stage)

    there : h.actor ≢ i → RunsWith z r ⊎ FaultedWith z r f c
    there n = inl (record { actor = h.actor; txn = h.txn; runs = ap (λ (actor : Name → Actor). (actor h.actor).txn) now ∙ ap (λ (b : Actor). b.txn) (set_name_there s.actor i a h.actor n) ∙ h.runs; queued = h.queued; number = h.number; read = h.read; changes = h.changes })

    at_i : z.actor i ≡ a
    at_i = ap (λ (actor : Name → Actor). actor i) now ∙ set_name_here s.actor i a i refl

    here : h.actor ≡ i → RunsWith z r ⊎ FaultedWith z r f c
    here e = ⊎_elim
        (λ (on : GoesOn h.txn a). inl (record { actor = i; txn = on.txn; runs = ap (λ (b : Actor). b.txn) at_i ∙ on.runs; queued = on.queued; number = on.number ∙ h.number; read = on.read ∙ h.read; changes = on.changes ∙ h.changes }))
        (λ (u : Receives h.txn a). inr (record { actor = i; receipt = u.receipt; among = subst (λ (b : Actor). InReceipts u.receipt b.receipts) (sym at_i) u.among; number = u.number ∙ h.number; read = u.read ∙ h.read; changes = u.changes ∙ h.changes; ends = u.ends f c (lost u.queued) }))
        (follows.1 h.txn (ap (λ j. (s.actor j).txn) (sym e) ∙ h.runs) h.queued not_won)

-- Every event leaves it so.
pub failed_stays : (base : Base) (most : Limits) (s : State) (i : Name) (action : Act) (f c : ℕ) (r : Record) → Kept base most s → FailedAs s f c r → FailedAs (after most s i action) f c r
failed_stays base most s i action f c r kept failed = by_reach (reach_of action)
  where
    good : Good base kept.0.0 s
    good = kept.0.1

    on_clock : (m : Option ClockMove) → Clocked (s.actor i) m → Rattle.core_kept.proofs.Durable.Calm s.clock (s.actor i) m → FailedAs (after_clock s i m) f c r
    on_clock None follows calm = failed
    on_clock (Some m) follows calm = (rw calm.0.outcomes failed.0, moved base kept.0.0 s (record s { clock = m.clock; actor = set_name s.actor i m.actor }) i m.actor f c r good refl follows failed.0 failed.1)

    on_row : (v : ℕ) (m : Option RowMove) → Rowed (s.actor i) m → FailedAs (after_row s i v m) f c r
    on_row v None follows = failed
    on_row v (Some m) follows = (failed.0, moved base kept.0.0 s (after_row s i v (Some m)) i m.actor f c r good refl follows failed.0 failed.1)

    on_log : (m : Option LogMove) → Logged (s.actor i) m → FailedAs (after_log s i m) f c r
    on_log None follows = failed
    on_log (Some m) follows = (failed.0, moved base kept.0.0 s (after_log s i (Some m)) i m.actor f c r good refl follows failed.0 failed.1)

    on_group : (m : Option GroupMove) → Grouped s.clock (s.actor i) m → FailedAs (after_group s i m) f c r
    on_group None follows = failed
    on_group (Some m) follows = (follows.1 r.tid (Failed f c) failed.0, moved base kept.0.0 s (after_group s i (Some m)) i m.actor f c r good refl follows.0 failed.0 failed.1)

    by_reach : (x : Reach) → FailedAs (after_at x most s i action) f c r
    by_reach reach.Clock = on_clock (clock_event action s.clock (s.actor i)) (clocked action s.clock (s.actor i)) (Rattle.core_kept.proofs.Durable.clock_calm action s.clock (s.actor i))
    by_reach (reach.Row v) = on_row v (row_event most action (s.row v) (s.actor i)) (rowed most action (s.row v) (s.actor i))
    by_reach reach.Log = on_log (log_event action i s.log (s.actor i)) (logged action i s.log (s.actor i))
    by_reach reach.LogAndClock = on_group (group_event action i s.log s.clock (s.actor i)) (grouped action i s.log s.clock (s.actor i))

-- Every event leaves every actor its receipts.
pub receipts_stay : (most : Limits) (s : State) (i : Name) (action : Act) → ReceiptsStay s (after most s i action)
receipts_stay most s i action = by_reach (reach_of action)
  where
    stays : (a : Actor) → Follows (s.actor i) a → (j : Name) (r : Receipt) → InReceipts r (s.actor j).receipts → InReceipts r (set_name s.actor i a j).receipts
    stays a follows j r m = ⊎_elim
        (λ (e : j ≡ i). subst (λ (b : Actor). InReceipts r b.receipts) (sym (set_name_here s.actor i a j e)) (follows.0 r (subst (λ k. InReceipts r (s.actor k).receipts) e m)))
        (λ (n : j ≢ i). subst (λ (b : Actor). InReceipts r b.receipts) (sym (set_name_there s.actor i a j n)) m)
        (cases_name j i)

    on_clock : (m : Option ClockMove) → Clocked (s.actor i) m → ReceiptsStay s (after_clock s i m)
    on_clock None follows = λ j r m. m
    on_clock (Some m) follows = stays m.actor follows

    on_row : (v : ℕ) (m : Option RowMove) → Rowed (s.actor i) m → ReceiptsStay s (after_row s i v m)
    on_row v None follows = λ j r m. m
    on_row v (Some m) follows = stays m.actor follows

    on_log : (m : Option LogMove) → Logged (s.actor i) m → ReceiptsStay s (after_log s i m)
    on_log None follows = λ j r m. m
    on_log (Some m) follows = stays m.actor follows

    on_group : (m : Option GroupMove) → Grouped s.clock (s.actor i) m → ReceiptsStay s (after_group s i m)
    on_group None follows = λ j r m. m
    on_group (Some m) follows = stays m.actor follows.0

    by_reach : (x : Reach) → ReceiptsStay s (after_at x most s i action)
    by_reach reach.Clock = on_clock (clock_event action s.clock (s.actor i)) (clocked action s.clock (s.actor i))
    by_reach (reach.Row v) = on_row v (row_event most action (s.row v) (s.actor i)) (rowed most action (s.row v) (s.actor i))
    by_reach reach.Log = on_log (log_event action i s.log (s.actor i)) (logged action i s.log (s.actor i))
    by_reach reach.LogAndClock = on_group (group_event action i s.log s.clock (s.actor i)) (grouped action i s.log s.clock (s.actor i))

-- ---- the fail itself

waiting_in : (g : Ghost) (actor : Name → Actor) (at : Place) (r : Record) (rs : List Record) → AllWait g actor at rs → In r rs → Waits g actor at r × (has_record r.tid rs ≡ true)
waiting_in g actor at r [] wait m = absurd m
waiting_in g actor at r (x ∷ rs) wait (inl is) = (subst (Waits g actor at) (sym is) wait.0, ap (λ (y : Record). has_record y.tid (x ∷ rs)) is ∙ Rattle.core_kept.proofs.Grouping.has_self x rs)
waiting_in g actor at r (x ∷ rs) wait (inr m) = let w = waiting_in g actor at r rs wait.2 m in (w.0, Rattle.core_kept.proofs.Grouping.has_more r.tid x rs w.1)

-- After a fail each record of the group is that of a failed transaction.
pub fail_fails : (base : Base) (most : Limits) (s : State) (i : Name) (f c : ℕ) (r : Record) → Kept base most s → is_enabled most s i (act.Fail f c) ≡ true → In r (s.actor i).group → FailedAs (after most s i (act.Fail f c)) f c r
fail_fails base most s i f c r kept enabled m = by_move (is_held_by i s.log.holder) refl (s.actor i).written refl (nat_lt f c && nat_le s.log.greatest f) refl
  where
    g : Ghost
    g = kept.0.0

    good : Good base g s
    good = kept.0.1

    wait : Waits g s.actor (InGroup i) r × (has_record r.tid (s.actor i).group ≡ true)
    wait = waiting_in g s.actor (InGroup i) r (s.actor i).group (good.groups i) m

    queued : is_open wait.0.txn.stage ≡ false
    queued = ap is_open wait.0.stage

    -- before it the transaction runs with the record
    runs : RunsWith s r
    runs = record { actor = g.who r.tid; txn = wait.0.txn; runs = wait.0.is; queued = queued; number = wait.0.tid; read = wait.0.read; changes = wait.0.own }

    outcome : outcome_of r.tid (s.clock.outcomes ++ settled_as (Failed f c) (s.actor i).group) ≡ Some (Failed f c)
    outcome = outcome_of-append r.tid s.clock.outcomes (settled_as (Failed f c) (s.actor i).group) (good.outcomes r.tid ∙ ap outcome_at wait.0.place) ∙ outcome_of-settled (Failed f c) r.tid (s.actor i).group ∙ rw wait.1 refl

    failed : (log : LogPart) → FailedAs (record s { clock = record s.clock { outcomes = s.clock.outcomes ++ settled_as (Failed f c) (s.actor i).group }; log = log; actor = set_name s.actor i (without_group (Failed f c) (s.actor i)) }) f c r
    failed log = (outcome, ⊎_elim here there (cases_name (g.who r.tid) i))
      where
        z : State
        z = record s { clock = record s.clock { outcomes = s.clock.outcomes ++ settled_as (Failed f c) (s.actor i).group }; log = log; actor = set_name s.actor i (without_group (Failed f c) (s.actor i)) }

        there : g.who r.tid ≢ i → RunsWith z r ⊎ FaultedWith z r f c
        there n = inl (record { actor = g.who r.tid; txn = wait.0.txn; runs = ap (λ (b : Actor). b.txn) (set_name_there s.actor i (without_group (Failed f c) (s.actor i)) (g.who r.tid) n) ∙ wait.0.is; queued = queued; number = wait.0.tid; read = wait.0.read; changes = wait.0.own })

        here : g.who r.tid ≡ i → RunsWith z r ⊎ FaultedWith z r f c
        here e =
            let at : (s.actor i).txn ≡ Some wait.0.txn = ap (λ j. (s.actor j).txn) (sym e) ∙ wait.0.is in
            inl (record {
              actor = i;
              txn = with_stage wait.0.txn (Decided (Failed f c));
              runs = ap (λ (b : Actor). b.txn) (set_name_here s.actor i (without_group (Failed f c) (s.actor i)) i refl) ∙ ap (told (Failed f c) (s.actor i).group) at ∙ rw (ap (λ t. has_record t (s.actor i).group) wait.0.tid ∙ wait.1) refl;
              queued = refl;
              number = wait.0.tid;
              read = wait.0.read;
              changes = wait.0.own;
            })

    by_move : (x : Bool) → is_held_by i s.log.holder ≡ x → (y : Bool) → (s.actor i).written ≡ y → (z : Bool) → (nat_lt f c && nat_le s.log.greatest f) ≡ z → FailedAs (after most s i (act.Fail f c)) f c r
    by_move false a y b z d = absurd (false≢true (sym (rw a refl) ∙ enabled))
    by_move true a true b z d = absurd (false≢true (sym (rw (a, b) refl) ∙ enabled))
    by_move true a false b false d = absurd (false≢true (sym (rw (a, b, d) refl) ∙ enabled))
    by_move true a false b true d = rw (a, b, d) (failed _)
