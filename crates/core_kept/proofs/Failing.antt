-- A failed group keeps what is kept: its records have their outcome, and their transactions wait or know it.
use Rattle.std.proofs.Common.{◌≡◌, ◌≢◌, ℕ, Bool, true, false, List, [], ◌∷◌, ◌++◌, length, refl, sym, ap, ◌∙◌, subst, arith, Option, Some, None, ⊎_elim, ◌⊎◌, inl, inr}
use Rattle.std.specs.Prelude.{if◌then◌else◌, ◌≤◌}
use Rattle.graph_model.specs.declared.graph.Base.{Base}
use Rattle.graph_model.specs.declared.record.Record.{Record}
use Rattle.graph_model.specs.declared.record.Outcome.{Outcome}
use Rattle.graph_model.specs.declared.record.Outcome.TheVariants.{Failed}
use Rattle.graph_model.specs.Places.{changes_about}
use Rattle.core_states.specs.declared.actor.Actor.{Actor}
use Rattle.core_states.specs.declared.actor.Learnt.{Learnt}
use Rattle.core_states.specs.declared.clock.Clock.{Clock}
use Rattle.core_states.specs.declared.transaction.Stage.{Stage}
use Rattle.core_states.specs.declared.transaction.Stage.TheVariants.{Queued, Decided}
use Rattle.core_states.specs.declared.transaction.Transaction.{Transaction}
use Rattle.core_kept.specs.Good.{Ghost, Place, Nowhere, InQueue, InGroup, InLog, InFault, RowOkBy, StageOk, published, TxnOk, Waits, AllWait, is_in_log, outcome_at, RecordsOk, LearntOk, Good}
use Rattle.core_states.specs.LogEvents.{told}
use Rattle.core_states.specs.Names.{Name, set_name}
use Rattle.core_states.specs.Numbers.{has_number, has_record, outcome_of, settled_as}
use Rattle.core_states.specs.States.{State}
use Rattle.core_states.specs.Transactions.{holds, with_stage}
use Rattle.core_kept.proofs.Beginning.{same_txn}
use Rattle.core_kept.proofs.Frames.{Same}
use Rattle.core_kept.proofs.GoingOn.{all_wait_map}
use Rattle.core_kept.proofs.Grouping.{wait_place}
use Rattle.core_states.proofs.Names.{some_is, cases_name, name_each, set_name_here, set_name_there}
use Rattle.core_kept.proofs.Publishing.{Was, told_was, told_same, told_becomes, outcome_of-append, outcome_of-kept, outcome_of-settled, member_of, queued_stage}

abbrev pub failed_ghost : Ghost → List Record → ℕ → ℕ → Ghost
failed_ghost g rs b c = record { who = g.who; drawer = g.drawer; place = λ t. if has_record t rs then InFault b c else g.place t }

abbrev pub failed_clock : Clock → List Record → Outcome → Clock
failed_clock k rs d = record k { outcomes = k.outcomes ++ settled_as d rs }

pub fail_keeps : (base : Base) (g : Ghost) (s : State) (i : Name) (b c : ℕ) (rs : List Record) (a : Actor) → Good base g s → (s.actor i).group ≡ rs → a.txn ≡ told (Failed b c) rs (s.actor i).txn → a.group ≡ [] → a.learnt ≡ (s.actor i).learnt
    → Good base (failed_ghost g rs b c) (record s { clock = failed_clock s.clock rs (Failed b c); actor = set_name s.actor i a })
fail_keeps base g s i b c rs a good group is empty learnt = record {
  low = good.low;
  visible = good.visible;
  next_tid = good.next_tid;
  next_vertex = good.next_vertex;
  pending = good.pending;
  records = all_records k.records good.records;
  recorded = λ t. good.recorded t ∙ recorded_by t (has_record t rs) refl;
  outcomes = λ t. outcome_by t (has_record t rs) refl;
  nowhere = λ t up. outside t (not_in t (good.nowhere t up) nowhere_group (has_record t rs) refl) ∙ good.nowhere t up;
  before = λ t lt. outside t (not_in t (good.before t lt) nowhere_group (has_record t rs) refl) ∙ good.before t lt;
  queue = all_wait_map g h s.actor now InQueue InQueue k.queue (λ r wait. keep InQueue r wait (not_in r.tid wait.place queue_group (has_record r.tid rs) refl)) good.queue;
  groups = name_each (λ j (x : Actor). AllWait h now (InGroup j) x.group) s.actor i a
      (subst (AllWait h now (InGroup i)) (sym empty) tt)
      (λ j n. all_wait_map g h s.actor now (InGroup j) (InGroup j) (s.actor j).group (λ r wait. keep (InGroup j) r wait (not_in r.tid wait.place (λ q. n (group_is j i q)) (has_record r.tid rs) refl)) (good.groups j));
  txns = λ j z at. let w = was j z at in txn_ok j z w.txn w.is w.now;
  drawn = λ j z at v d. let w = was j z at in let u = good.drawn j w.txn w.is v (was_same j z w.txn v w.now d) in record { drawer = u.drawer; above = u.above; below = u.below; fresh = u.fresh };
  undrawn = good.undrawn;
  held = λ j z at v d. let w = was j z at in good.held j w.txn w.is v (was_holds z w.txn v w.now d) ∙ ap Some (was_tid z w.txn w.now);
  rows = λ w. row_ok (s.row w).owner w (good.rows w);
  active = λ t n has. let r = good.active t n has in let q = becomes (g.who t) r.txn r.is in record { txn = q.0; is = q.1; tid = (q.2 0).tid ∙ r.tid; read = (q.2 0).read ∙ r.read };
  learnt = name_each (λ j (x : Actor). LearntOk z_clock x.learnt) s.actor i a (subst (LearntOk z_clock) (sym learnt) (learnt_same (good.learnt i))) (λ j n. learnt_same (good.learnt j));
  short = name_each (λ j (x : Actor). length x.group ≤ 64) s.actor i a (rw empty (omega arith)) (λ j n. good.short j);
  lawful = good.lawful;
}
  where
    k : Clock
    k = s.clock

    z_clock : Clock
    z_clock = failed_clock s.clock rs (Failed b c)

    h : Ghost
    h = failed_ghost g rs b c

    now : Name → Actor
    now = set_name s.actor i a

    learnt_same : {l : Learnt} → LearntOk s.clock l → LearntOk z_clock l
    learnt_same ok = record { visible = ok.visible; reads = ok.reads; next = ok.next; tids = ok.tids }

    whole : AllWait g s.actor (InGroup i) rs
    whole = subst (AllWait g s.actor (InGroup i)) group (good.groups i)

    inside : (t : ℕ) → has_record t rs ≡ true → h.place t ≡ InFault b c
    inside t has = rw has refl

    outside : (t : ℕ) → has_record t rs ≡ false → h.place t ≡ g.place t
    outside t has = rw has refl

    nowhere_group : Nowhere ≡ InGroup i → ⊥
    nowhere_group q = (cc)

    queue_group : InQueue ≡ InGroup i → ⊥
    queue_group q = (cc)

    log_group : (n : ℕ) → InLog n ≡ InGroup i → ⊥
    log_group n q = (cc)

    group_is : (j l : Name) → InGroup j ≡ InGroup l → j ≡ l
    group_is j l q = (cc)

    not_in : (t : ℕ) {p : Place} → g.place t ≡ p → (p ≡ InGroup i → ⊥) → (d : Bool) → has_record t rs ≡ d → has_record t rs ≡ false
    not_in t at away true has = absurd (away (sym at ∙ wait_place g s.actor (InGroup i) rs t whole has))
    not_in t at away false has = has

    all_records : (cs : List Record) → RecordsOk base g k.next_tid cs → RecordsOk base h k.next_tid cs
    all_records [] ok = tt
    all_records (r ∷ cs) ok = (outside r.tid (not_in r.tid ok.0 (log_group r.epoch) (has_record r.tid rs) refl) ∙ ok.0, ok.1, ok.2, ok.3, ok.4, ok.5, all_records cs ok.6)

    recorded_by : (t : ℕ) (d : Bool) → has_record t rs ≡ d → is_in_log (g.place t) ≡ is_in_log (h.place t)
    recorded_by t true has = ap is_in_log (wait_place g s.actor (InGroup i) rs t whole has) ∙ ap is_in_log (sym (inside t has))
    recorded_by t false has = ap is_in_log (sym (outside t has))

    outcome_by : (t : ℕ) (d : Bool) → has_record t rs ≡ d → outcome_of t (k.outcomes ++ settled_as (Failed b c) rs) ≡ outcome_at (h.place t)
    outcome_by t true has =
        outcome_of-append t k.outcomes (settled_as (Failed b c) rs) (good.outcomes t ∙ ap outcome_at (wait_place g s.actor (InGroup i) rs t whole has))
        ∙ outcome_of-settled (Failed b c) t rs ∙ rw has refl
    outcome_by t false has = outcome_of-kept t k.outcomes (settled_as (Failed b c) rs) (outcome_of-settled (Failed b c) t rs ∙ rw has refl) ∙ good.outcomes t ∙ ap outcome_at (sym (outside t has))

    becomes : (j : Name) (x : Transaction) → (s.actor j).txn ≡ Some x → (y : Transaction) × ((now j).txn ≡ Some y) × ((w : ℕ) → Same w x y)
    becomes j x at = ⊎_elim
        (λ (q : j ≡ i). let d = told_becomes (Failed b c) rs (s.actor i).txn x (ap (λ l. (s.actor l).txn) (sym q) ∙ at) in (d.txn, ap (λ (e : Actor). e.txn) (set_name_here s.actor i a j q) ∙ is ∙ d.is, d.same))
        (λ (n : j ≢ i). (x, ap (λ (e : Actor). e.txn) (set_name_there s.actor i a j n) ∙ at, λ w. same_txn w x))
        (cases_name j i)

    unmoved : (j : Name) (x : Transaction) → (s.actor j).txn ≡ Some x → has_record x.tid rs ≡ false → (now j).txn ≡ Some x
    unmoved j x at none = ⊎_elim
        (λ (q : j ≡ i). ap (λ (e : Actor). e.txn) (set_name_here s.actor i a j q) ∙ is ∙ told_same (Failed b c) rs (s.actor i).txn x (ap (λ l. (s.actor l).txn) (sym q) ∙ at) none)
        (λ (n : j ≢ i). ap (λ (e : Actor). e.txn) (set_name_there s.actor i a j n) ∙ at)
        (cases_name j i)

    keep : (p : Place) (r : Record) → Waits g s.actor p r → has_record r.tid rs ≡ false → Waits h now p r
    keep p r wait none = record {
      txn = wait.txn;
      is = unmoved (g.who r.tid) wait.txn wait.is (ap (λ t. has_record t rs) wait.tid ∙ none);
      tid = wait.tid;
      read = wait.read;
      own = wait.own;
      stage = wait.stage;
      place = outside r.tid none ∙ wait.place;
    }

    row_ok : (o : Option ℕ) (w : ℕ) → RowOkBy o base g k.records s.actor w (s.row w) → RowOkBy o base h k.records now w (s.row w)
    row_ok None w ok = ok
    row_ok (Some t) w ok =
        let now_txn = becomes (g.who t) ok.txn ok.is in
        let same = now_txn.2 w in
        record {
          txn = now_txn.0;
          is = now_txn.1;
          tid = same.tid ∙ ok.tid;
          held = same.held ∙ ok.held;
          read = rw same.read ok.read;
          last = ok.last;
          fits = rw same.own ok.fits;
        }

    was : (j : Name) (z : Transaction) → (now j).txn ≡ Some z → Was rs (Failed b c) (s.actor j).txn z
    was j z at = ⊎_elim
        (λ (q : j ≡ i). subst (λ l. Was rs (Failed b c) (s.actor l).txn z) (sym q) (told_was (Failed b c) rs (s.actor i).txn z (sym is ∙ ap (λ (e : Actor). e.txn) (sym (set_name_here s.actor i a j q)) ∙ at)))
        (λ (n : j ≢ i). record { txn = z; is = ap (λ (e : Actor). e.txn) (sym (set_name_there s.actor i a j n)) ∙ at; now = inl refl })
        (cases_name j i)

    was_same : (j : Name) (z x : Transaction) (v : ℕ) → (z ≡ x) ⊎ ((has_record x.tid rs ≡ true) × (z ≡ with_stage x (Decided (Failed b c)))) → has_number v z.drawn ≡ true → has_number v x.drawn ≡ true
    was_same j z x v (inl q) d = ap (λ (y : Transaction). has_number v y.drawn) (sym q) ∙ d
    was_same j z x v (inr q) d = ap (λ (y : Transaction). has_number v y.drawn) (sym q.1) ∙ d

    was_holds : (z x : Transaction) (v : ℕ) → (z ≡ x) ⊎ ((has_record x.tid rs ≡ true) × (z ≡ with_stage x (Decided (Failed b c)))) → holds z v ≡ true → holds x v ≡ true
    was_holds z x v (inl q) d = ap (λ (y : Transaction). holds y v) (sym q) ∙ d
    was_holds z x v (inr q) d = ap (λ (y : Transaction). holds y v) (sym q.1) ∙ d

    was_tid : (z x : Transaction) → (z ≡ x) ⊎ ((has_record x.tid rs ≡ true) × (z ≡ with_stage x (Decided (Failed b c)))) → x.tid ≡ z.tid
    was_tid z x (inl q) = ap (λ (y : Transaction). y.tid) (sym q)
    was_tid z x (inr q) = ap (λ (y : Transaction). y.tid) (sym q.1)

    fault_nowhere : InFault b c ≡ Nowhere → ⊥
    fault_nowhere q = (cc)

    fault_log : (n : ℕ) → InFault b c ≡ InLog n → ⊥
    fault_log n q = (cc)

    -- a transaction whose record is not in the group
    txn_out : (j : Name) (x : Transaction) → TxnOk base g k j x → has_record x.tid rs ≡ false → TxnOk base h z_clock j x
    txn_out j x ok none = record {
      who = ok.who;
      above = ok.above;
      below = ok.below;
      read_above = ok.read_above;
      read_below = ok.read_below;
      row = ok.row;
      touched = ok.touched;
      stage = subst (StageOk x.stage x.settled) (sym (outside x.tid none)) ok.stage;
      record_is = λ v. ok.record_is v ∙ ap (λ (p : Place). published p (changes_about v x.own)) (sym (outside x.tid none));
      pending = λ n at. ok.pending n (sym (outside x.tid none) ∙ at);
      later = λ n at. ok.later n (sym (outside x.tid none) ∙ at);
      recorded = λ n at. ok.recorded n (sym (outside x.tid none) ∙ at);
    }

    -- and one whose record is
    txn_in : (j : Name) (x : Transaction) → (s.actor j).txn ≡ Some x → has_record x.tid rs ≡ true → (stage : Stage) → (stage ≡ x.stage) ⊎ (stage ≡ Decided (Failed b c)) → TxnOk base h z_clock j (with_stage x stage)
    txn_in j x at has stage which =
        let ok = good.txns j x at in
        let m = member_of g s.actor (InGroup i) 0 x.tid rs whole has in
        let same : m.waits.txn ≡ x = some_is m.waits.txn x (sym m.waits.is ∙ ap (λ l. (s.actor l).txn) (ap g.who m.tid ∙ ok.who) ∙ at) in
        let queued : x.stage ≡ Queued = ap (λ (y : Transaction). y.stage) (sym same) ∙ m.waits.stage in
        let place = inside x.tid has in
        record {
          who = ok.who;
          above = ok.above;
          below = ok.below;
          read_above = ok.read_above;
          read_below = ok.read_below;
          row = ok.row;
          touched = ok.touched;
          stage = ⊎_elim
              (λ (q : stage ≡ x.stage). subst (λ (y : Stage). StageOk y x.settled (h.place x.tid)) (sym (q ∙ queued)) (queued_stage x (g.place x.tid) queued ok.stage, λ n. fault_nowhere (sym place ∙ n)))
              (λ (q : stage ≡ Decided (Failed b c)). subst (λ (y : Stage). StageOk y x.settled (h.place x.tid)) (sym q) place)
              which;
          record_is = λ v.
              ok.record_is v ∙ ap (λ (p : Place). published p (changes_about v x.own)) (wait_place g s.actor (InGroup i) rs x.tid whole has)
              ∙ ap (λ (p : Place). published p (changes_about v x.own)) (sym place);
          pending = λ n is_n. absurd (fault_log n (sym place ∙ is_n));
          recorded = λ n is_n. absurd (fault_log n (sym place ∙ is_n));
          later = λ n is_n. absurd (fault_log n (sym place ∙ is_n));
        }

    by_has : (j : Name) (x : Transaction) → (s.actor j).txn ≡ Some x → (d : Bool) → has_record x.tid rs ≡ d → TxnOk base h z_clock j x
    by_has j x at true has = txn_in j x at has x.stage (inl refl)
    by_has j x at false has = txn_out j x (good.txns j x at) has

    txn_ok : (j : Name) (z x : Transaction) → (s.actor j).txn ≡ Some x → (z ≡ x) ⊎ ((has_record x.tid rs ≡ true) × (z ≡ with_stage x (Decided (Failed b c)))) → TxnOk base h z_clock j z
    txn_ok j z x at (inl q) = subst (TxnOk base h z_clock j) (sym q) (by_has j x at (has_record x.tid rs) refl)
    txn_ok j z x at (inr q) = subst (TxnOk base h z_clock j) (sym q.1) (txn_in j x at q.0 (Decided (Failed b c)) (inr refl))
