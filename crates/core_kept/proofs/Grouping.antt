-- Records are collected: the facts are kept.
use Rattle.std.proofs.Common.{◌≡◌, ◌≢◌, ℕ, ◌≤◌, Bool, true, false, ◌||◌, List, [], ◌∷◌, ◌++◌, length, refl, sym, ap, ◌∙◌, subst, Option, Some, None, ⊎_elim, ◌⊎◌, inl, inr}
use Rattle.std.proofs.lemmas.Bool.{cases_eq, eq-eqb, ne_eqb, false≢true, or_parts}
use Rattle.std.specs.Prelude.{if◌then◌else◌, ◌==◌}
use Rattle.graph_model.specs.Places.{changes_about}
use Rattle.graph_model.specs.declared.change.Change.{Change}
use Rattle.graph_model.specs.declared.graph.Base.{Base}
use Rattle.graph_model.specs.declared.record.Outcome.TheVariants.{Committed, Failed}
use Rattle.graph_model.specs.declared.record.Record.{Record}
use Rattle.core_states.proofs.Names.{name_each}
use Rattle.core_kept.specs.Good.{Place, Nowhere, InQueue, InGroup, InLog, InFault, Ghost, RowOkBy, published, StageOk, TxnOk, Waits, AllWait, is_in_log, outcome_at, RecordsOk, LearntOk, Good}
use Rattle.core_states.specs.Names.{Name, set_name}
use Rattle.core_states.specs.Numbers.{has_record}
use Rattle.core_states.specs.States.{State}
use Rattle.core_states.specs.declared.actor.Actor.{Actor}
use Rattle.core_states.specs.declared.actor.Learnt.{Learnt}
use Rattle.core_states.specs.declared.clock.Clock.{Clock}
use Rattle.core_states.specs.declared.transaction.Stage.{Stage}
use Rattle.core_states.specs.declared.transaction.Stage.TheVariants.{Open, Queued, Decided}
use Rattle.core_states.specs.declared.transaction.Transaction.{Transaction}
use Rattle.core_kept.proofs.Beginning.{owned_move, same_txn}
use Rattle.core_kept.proofs.GoingOn.{has_record-append, all_wait_map}

-- the place of a number that waits in a list
pub wait_place : (g : Ghost) (actor : Name → Actor) (at : Place) (rs : List Record) (t : ℕ) → AllWait g actor at rs → has_record t rs ≡ true → g.place t ≡ at
wait_place g actor at [] t wait has = absurd (false≢true has)
wait_place g actor at (r ∷ rs) t wait has = ⊎_elim
    (λ (e : r.tid ≡ t). ap g.place (sym e) ∙ wait.0.place)
    (λ (n : r.tid ≢ t). wait_place g actor at rs t wait.2 (rw (ne_eqb r.tid t n) at has))
    (cases_eq r.tid t)

pub has_self : (r : Record) (rs : List Record) → has_record r.tid (r ∷ rs) ≡ true
has_self r rs = rw (eq-eqb r.tid r.tid refl) refl

pub has_more : (t : ℕ) (r : Record) (rs : List Record) → has_record t rs ≡ true → has_record t (r ∷ rs) ≡ true
has_more t r rs e = rw e (or_true (r.tid == t))
  where
    or_true : (b : Bool) → (b || true) ≡ true
    or_true true = refl
    or_true false = refl

-- each that waits in the list waits elsewhere
pub all_wait_in : (g h : Ghost) (actor now : Name → Actor) (at to : Place) (rs : List Record) → ((r : Record) → has_record r.tid rs ≡ true → Waits g actor at r → Waits h now to r) → AllWait g actor at rs → AllWait h now to rs
all_wait_in g h actor now at to [] each wait = tt
all_wait_in g h actor now at to (r ∷ rs) each wait =
    (each r (has_self r rs) wait.0, wait.1, all_wait_in g h actor now at to rs (λ q has. each q (has_more q.tid r rs has)) wait.2)

-- the two parts of a list that waits
pub wait_front : (g : Ghost) (actor : Name → Actor) (at : Place) (rs qs : List Record) → AllWait g actor at (rs ++ qs) → AllWait g actor at rs
wait_front g actor at [] qs wait = tt
wait_front g actor at (r ∷ rs) qs wait = (wait.0, (or_parts (has_record r.tid rs) (has_record r.tid qs) (sym (has_record-append r.tid rs qs) ∙ wait.1)).0, wait_front g actor at rs qs wait.2)

pub wait_back : (g : Ghost) (actor : Name → Actor) (at : Place) (rs qs : List Record) → AllWait g actor at (rs ++ qs) → AllWait g actor at qs
wait_back g actor at [] qs wait = wait
wait_back g actor at (r ∷ rs) qs wait = wait_back g actor at rs qs wait.2

pub wait_apart : (g : Ghost) (actor : Name → Actor) (at : Place) (rs qs : List Record) (t : ℕ) → AllWait g actor at (rs ++ qs) → has_record t qs ≡ true → has_record t rs ≡ false
wait_apart g actor at [] qs t wait has = refl
wait_apart g actor at (r ∷ rs) qs t wait has = ⊎_elim
    (λ (e : r.tid ≡ t). absurd (false≢true (sym (or_parts (has_record r.tid rs) (has_record r.tid qs) (sym (has_record-append r.tid rs qs) ∙ wait.1)).1 ∙ ap (λ u. has_record u qs) e ∙ has)))
    (λ (n : r.tid ≢ t). rw (ne_eqb r.tid t n) (wait_apart g actor at rs qs t wait.2 has))
    (cases_eq r.tid t)

-- a number whose record waits now here, now there
abbrev is_waiting : Place → Bool
is_waiting Nowhere = false
is_waiting InQueue = true
is_waiting (InGroup i) = true
is_waiting (InLog e) = false
is_waiting (InFault b a) = false

waiting_stage : (stage : Stage) (settled : List ℕ) (p q : Place) → is_waiting p ≡ true → is_waiting q ≡ true → StageOk stage settled p → StageOk stage settled q
waiting_stage Open settled p q a b ok = absurd (false≢true (ap is_waiting (sym ok) ∙ a))
waiting_stage Queued settled p q a b ok = (ok.0, λ e. false≢true (ap is_waiting (sym e) ∙ b))
waiting_stage (Decided (Committed e)) settled p q a b ok = absurd (false≢true (ap is_waiting (sym ok) ∙ a))
waiting_stage (Decided (Failed c d)) settled p q a b ok = absurd (false≢true (ap is_waiting (sym ok) ∙ a))

waiting_published : (p : Place) (cs : List Change) → is_waiting p ≡ true → published p cs ≡ []
waiting_published Nowhere cs a = refl
waiting_published InQueue cs a = refl
waiting_published (InGroup i) cs a = refl
waiting_published (InLog e) cs a = absurd (false≢true a)
waiting_published (InFault b c) cs a = refl

waiting_log : (p : Place) (e : ℕ) → is_waiting p ≡ true → p ≡ InLog e → ⊥
waiting_log p e a is = false≢true (ap is_waiting (sym is) ∙ a)

waiting_no_log : (p : Place) → is_waiting p ≡ true → is_in_log p ≡ false
waiting_no_log Nowhere a = refl
waiting_no_log InQueue a = refl
waiting_no_log (InGroup i) a = refl
waiting_no_log (InLog e) a = absurd (false≢true a)
waiting_no_log (InFault b c) a = refl

waiting_outcome : (p : Place) → is_waiting p ≡ true → outcome_at p ≡ None
waiting_outcome Nowhere a = refl
waiting_outcome InQueue a = refl
waiting_outcome (InGroup i) a = refl
waiting_outcome (InLog e) a = absurd (false≢true a)
waiting_outcome (InFault b c) a = absurd (false≢true a)

-- the place is as before, or waits here and there
abbrev Alike : Place → Place → Type 0
Alike p q = (q ≡ p) ⊎ ((is_waiting p ≡ true) × (is_waiting q ≡ true))

abbrev pub queue_less : Clock → List Record → Clock
queue_less k q = record { next_tid = k.next_tid; next_vertex = k.next_vertex; last = k.last; visible = k.visible; rows = k.rows; queue = q; pending = k.pending; outcomes = k.outcomes; records = k.records; moments = k.moments }

alike_txn : (base : Base) (g h : Ghost) (k : Clock) (q : List Record) (j : Name) (z : Transaction) → ((t : ℕ) → h.who t ≡ g.who t) → Alike (g.place z.tid) (h.place z.tid) → TxnOk base g k j z → TxnOk base h (queue_less k q) j z
alike_txn base g h k q j z who (inl same) ok = record {
  who = who z.tid ∙ ok.who;
  above = ok.above;
  below = ok.below;
  read_above = ok.read_above;
  read_below = ok.read_below;
  row = ok.row;
  touched = ok.touched;
  stage = subst (StageOk z.stage z.settled) (sym same) ok.stage;
  record_is = λ v. ok.record_is v ∙ ap (λ (p : Place). published p (changes_about v z.own)) (sym same);
  pending = λ e is. ok.pending e (sym same ∙ is);
  later = λ e is. ok.later e (sym same ∙ is);
  recorded = λ e is. ok.recorded e (sym same ∙ is);
}
alike_txn base g h k q j z who (inr both) ok = record {
  who = who z.tid ∙ ok.who;
  above = ok.above;
  below = ok.below;
  read_above = ok.read_above;
  read_below = ok.read_below;
  row = ok.row;
  touched = ok.touched;
  stage = waiting_stage z.stage z.settled (g.place z.tid) (h.place z.tid) both.0 both.1 ok.stage;
  record_is = λ v. ok.record_is v ∙ waiting_published (g.place z.tid) (changes_about v z.own) both.0 ∙ sym (waiting_published (h.place z.tid) (changes_about v z.own) both.1);
  pending = λ e is. absurd (waiting_log (h.place z.tid) e both.1 is);
  later = λ e is. absurd (waiting_log (h.place z.tid) e both.1 is);
  recorded = λ e is. absurd (waiting_log (h.place z.tid) e both.1 is);
}

abbrev pub collected_ghost : Ghost → List Record → Name → Ghost
collected_ghost g rs i = record { who = g.who; drawer = g.drawer; place = λ t. if has_record t rs then InGroup i else g.place t }

pub collect_keeps : (base : Base) (g : Ghost) (s : State) (i : Name) (rs qs : List Record) (a : Actor) → Good base g s → s.clock.queue ≡ rs ++ qs → (s.actor i).group ≡ [] → a.txn ≡ (s.actor i).txn → a.group ≡ rs → a.learnt ≡ (s.actor i).learnt → length rs ≤ 64
    → Good base (collected_ghost g rs i) (record s { clock = queue_less s.clock qs; actor = set_name s.actor i a })
collect_keeps base g s i rs qs a good parts idle same group learnt few = record {
  low = good.low;
  visible = good.visible;
  next_tid = good.next_tid;
  next_vertex = good.next_vertex;
  pending = good.pending;
  records = records_alike s.clock.records good.records;
  recorded = λ t. good.recorded t ∙ alike_log t (alike t);
  outcomes = λ t. good.outcomes t ∙ alike_outcome t (alike t);
  nowhere = λ t up. not_there t (has_record t rs) refl (good.nowhere t up);
  before = λ t lt. not_there t (has_record t rs) refl (good.before t lt);
  queue = all_wait_in g h s.actor now InQueue InQueue qs (λ r has wait. moved InQueue InQueue r wait (outside r.tid (wait_apart g s.actor InQueue rs qs r.tid whole has) ∙ wait.place)) (wait_back g s.actor InQueue rs qs whole);
  groups = name_each (λ j (b : Actor). AllWait h now (InGroup j) b.group) s.actor i a
      (subst (AllWait h now (InGroup i)) (sym group) (all_wait_in g h s.actor now InQueue (InGroup i) rs (λ r has wait. moved InQueue (InGroup i) r wait (inside r.tid has)) (wait_front g s.actor InQueue rs qs whole)))
      (λ j n. all_wait_map g h s.actor now (InGroup j) (InGroup j) (s.actor j).group (λ r wait. moved (InGroup j) (InGroup j) r wait (outside r.tid (not_queued j r.tid wait.place (has_record r.tid rs) refl) ∙ wait.place)) (good.groups j));
  txns = λ j z e. alike_txn base g h s.clock qs j z (λ t. refl) (alike z.tid) (good.txns j z (sym (txn_same j) ∙ e));
  drawn = λ j z e w d. let u = good.drawn j z (sym (txn_same j) ∙ e) w d in record { drawer = u.drawer; above = u.above; below = u.below; fresh = u.fresh };
  undrawn = good.undrawn;
  held = λ j z e. good.held j z (sym (txn_same j) ∙ e);
  rows = λ w. row_ok (s.row w).owner w (good.rows w);
  active = λ t e has. let r = good.active t e has in record { txn = r.txn; is = txn_same (g.who t) ∙ r.is; tid = r.tid; read = r.read };
  learnt = name_each (λ j (b : Actor). LearntOk (queue_less s.clock qs) b.learnt) s.actor i a (subst (LearntOk (queue_less s.clock qs)) (sym learnt) (learnt_same (good.learnt i))) (λ j n. learnt_same (good.learnt j));
  short = name_each (λ j (b : Actor). length b.group ≤ 64) s.actor i a (rw group few) (λ j n. good.short j);
  lawful = good.lawful;
}
  where
    h : Ghost
    h = collected_ghost g rs i

    now : Name → Actor
    now = set_name s.actor i a

    learnt_same : {l : Learnt} → LearntOk s.clock l → LearntOk (queue_less s.clock qs) l
    learnt_same ok = record { visible = ok.visible; reads = ok.reads; next = ok.next; tids = ok.tids }

    whole : AllWait g s.actor InQueue (rs ++ qs)
    whole = subst (AllWait g s.actor InQueue) parts good.queue

    txn_same : (j : Name) → (now j).txn ≡ (s.actor j).txn
    txn_same = name_each (λ j (b : Actor). b.txn ≡ (s.actor j).txn) s.actor i a same (λ j n. refl)

    inside : (t : ℕ) → has_record t rs ≡ true → h.place t ≡ InGroup i
    inside t e = rw e refl

    outside : (t : ℕ) → has_record t rs ≡ false → h.place t ≡ g.place t
    outside t e = rw e refl

    alike_by : (t : ℕ) (b : Bool) → has_record t rs ≡ b → Alike (g.place t) (h.place t)
    alike_by t true e = inr (ap is_waiting (wait_place g s.actor InQueue rs t (wait_front g s.actor InQueue rs qs whole) e), ap is_waiting (inside t e))
    alike_by t false e = inl (outside t e)

    alike : (t : ℕ) → Alike (g.place t) (h.place t)
    alike t = alike_by t (has_record t rs) refl

    alike_log : (t : ℕ) → Alike (g.place t) (h.place t) → is_in_log (g.place t) ≡ is_in_log (h.place t)
    alike_log t (inl e) = ap is_in_log (sym e)
    alike_log t (inr b) = waiting_no_log (g.place t) b.0 ∙ sym (waiting_no_log (h.place t) b.1)

    alike_outcome : (t : ℕ) → Alike (g.place t) (h.place t) → outcome_at (g.place t) ≡ outcome_at (h.place t)
    alike_outcome t (inl e) = ap outcome_at (sym e)
    alike_outcome t (inr b) = waiting_outcome (g.place t) b.0 ∙ sym (waiting_outcome (h.place t) b.1)

    not_there : (t : ℕ) (b : Bool) → has_record t rs ≡ b → g.place t ≡ Nowhere → h.place t ≡ Nowhere
    not_there t true e is = absurd (false≢true (ap is_waiting (sym is ∙ wait_place g s.actor InQueue rs t (wait_front g s.actor InQueue rs qs whole) e)))
    not_there t false e is = outside t e ∙ is

    queue_group : (j : Name) → InQueue ≡ InGroup j → ⊥
    queue_group j e = (cc)

    not_queued : (j : Name) (t : ℕ) → g.place t ≡ InGroup j → (b : Bool) → has_record t rs ≡ b → has_record t rs ≡ false
    not_queued j t is true e = absurd (queue_group j (sym (wait_place g s.actor InQueue rs t (wait_front g s.actor InQueue rs qs whole) e) ∙ is))
    not_queued j t is false e = e

    moved : (p q : Place) (r : Record) → Waits g s.actor p r → h.place r.tid ≡ q → Waits h now q r
    moved p q r wait place = record { txn = wait.txn; is = txn_same (g.who r.tid) ∙ wait.is; tid = wait.tid; read = wait.read; own = wait.own; stage = wait.stage; place = place }

    log_kept : (t e : ℕ) → g.place t ≡ InLog e → Alike (g.place t) (h.place t) → h.place t ≡ InLog e
    log_kept t e is (inl same) = same ∙ is
    log_kept t e is (inr b) = absurd (waiting_log (g.place t) e b.0 is)

    records_alike : (cs : List Record) → RecordsOk base g s.clock.next_tid cs → RecordsOk base h s.clock.next_tid cs
    records_alike [] ok = tt
    records_alike (r ∷ cs) ok = (log_kept r.tid r.epoch ok.0 (alike r.tid), ok.1, ok.2, ok.3, ok.4, ok.5, records_alike cs ok.6)

    row_ok : (o : Option ℕ) (w : ℕ) → RowOkBy o base g s.clock.records s.actor w (s.row w) → RowOkBy o base h s.clock.records now w (s.row w)
    row_ok None w ok = ok
    row_ok (Some t) w ok = owned_move base g h s.clock.records s.actor now w (s.row w) t ok ok.txn refl (txn_same (g.who t) ∙ ok.is) (same_txn w ok.txn)
