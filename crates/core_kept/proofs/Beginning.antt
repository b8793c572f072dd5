-- An actor begins a transaction: the facts are kept, with what the proofs know beside the state moved along.
use Rattle.std.proofs.Common.{◌≡◌, ℕ, ◌+◌, ◌<◌, ◌≤◌, Bool, true, false, ◌&&◌, ◌||◌, List, [], ◌∷◌, length, refl, sym, ap, ◌∙◌, subst, arith, Option, Some, None, ⊎_elim, ◌⊎◌, inl, inr}
use Rattle.std.proofs.lemmas.Bool.{eq-eqb, eqb-true, and_parts, false≢true, or_cases}
use Rattle.std.specs.Prelude.{◌==◌}
use Rattle.graph_model.specs.declared.graph.Base.{Base}
use Rattle.graph_model.specs.declared.record.Record.{Record}
use Rattle.core_rows.specs.Rows.{Row}
use Rattle.core_states.proofs.Names.{set_at_here, set_at_there, set_name_here, set_name_there, name_each, some_is}
use Rattle.core_kept.specs.Good.{part_of, Place, Nowhere, InQueue, InGroup, InLog, Ghost, Owned, RowOkBy, TxnOk, Waits, AllWait, is_in_log, RecordsOk, Unused, IsActive, LearntOk, Good}
use Rattle.core_states.specs.Names.{Name, set_at, set_name}
use Rattle.core_states.specs.Numbers.{has_number, has_active, has_record}
use Rattle.core_states.specs.States.{State}
use Rattle.core_states.specs.Transactions.{holds}
use Rattle.core_states.specs.declared.actor.Actor.{Actor}
use Rattle.core_states.specs.declared.actor.Learnt.{Learnt}
use Rattle.core_states.specs.declared.clock.Clock.{Clock}
use Rattle.core_states.specs.declared.transaction.Stage.TheVariants.{Open}
use Rattle.core_states.specs.declared.transaction.Transaction.{Transaction}
use Rattle.core_kept.proofs.Frames.{Same}

pub none_some : {A : Type 0} (x : A) → None ≡ Some x → ⊥
none_some x e = (cc)

-- The owner's transaction moved.
pub owned_move : (base : Base) (g h : Ghost) (records : List Record) (actor now : Name → Actor) (w : ℕ) (row : Row) (t : ℕ) (owned : Owned base g records actor w row t) (y : Transaction)
    → h.who t ≡ g.who t → (now (g.who t)).txn ≡ Some y → Same w owned.txn y → Owned base h records now w row t
owned_move base g h records actor now w row t owned y who is same = record {
  txn = y;
  is = ap (λ j. (now j).txn) who ∙ is;
  tid = same.tid ∙ owned.tid;
  held = same.held ∙ owned.held;
  read = rw same.read owned.read;
  last = owned.last;
  fits = rw same.own owned.fits;
}

pub same_txn : (w : ℕ) (x : Transaction) → Same w x x
same_txn w x = record { tid = refl; read = refl; held = refl; own = refl }

-- begin

abbrev pub begun_ghost : Ghost → ℕ → Name → Ghost
begun_ghost g t i = record { who = set_at g.who t i; drawer = g.drawer; place = g.place }

abbrev begun_txn : ℕ → ℕ → Transaction
begun_txn t r = record { tid = t; read = r; drawn = []; touched = []; settled = []; own = []; stage = Open }

abbrev begun_clock : Clock → Clock
begun_clock k = record {
  next_tid = k.next_tid + 1;
  next_vertex = k.next_vertex;
  last = k.last;
  visible = k.visible;
  rows = record { tid = k.next_tid; epoch = k.visible } ∷ k.rows;
  queue = k.queue;
  pending = k.pending;
  outcomes = k.outcomes;
  records = k.records;
  moments = k.moments;
}

abbrev begun_actor : Clock → Actor → Actor
begun_actor k a = record a { txn = Some (begun_txn k.next_tid k.visible); looked = None; finished = None }

-- each number in use is below the next one
pub waits_below : (base : Base) (g : Ghost) (s : State) (at : Place) (r : Record) → Good base g s → Waits g s.actor at r → r.tid < s.clock.next_tid
waits_below base g s at r good wait = rw (← wait.tid) (good.txns (g.who r.tid) wait.txn wait.is).below

begun_wait : (base : Base) (g : Ghost) (s : State) (i : Name) (a : Actor) (at : Place) (r : Record) → Good base g s → (s.actor i).txn ≡ None
    → Waits g s.actor at r → Waits (begun_ghost g s.clock.next_tid i) (set_name s.actor i a) at r
begun_wait base g s i a at r good idle w =
    let below = waits_below base g s at r good w in
    let who : set_at g.who s.clock.next_tid i r.tid ≡ g.who r.tid = set_at_there g.who s.clock.next_tid i r.tid (λ e. absurd (omega (arith, e, below))) in
    record {
      txn = w.txn;
      is = ap (λ j. (set_name s.actor i a j).txn) who ∙ ap (λ (b : Actor). b.txn) (set_name_there s.actor i a (g.who r.tid) (λ e. none_some w.txn (sym (ap (λ j. (s.actor j).txn) e ∙ idle) ∙ w.is))) ∙ w.is;
      tid = w.tid;
      read = w.read;
      own = w.own;
      stage = w.stage;
      place = w.place;
    }

begun_waits : (base : Base) (g : Ghost) (s : State) (i : Name) (a : Actor) (at : Place) (rs : List Record) → Good base g s → (s.actor i).txn ≡ None
    → AllWait g s.actor at rs → AllWait (begun_ghost g s.clock.next_tid i) (set_name s.actor i a) at rs
begun_waits base g s i a at [] good idle wait = tt
begun_waits base g s i a at (r ∷ rs) good idle wait = (begun_wait base g s i a at r good idle wait.0, wait.1, begun_waits base g s i a at rs good idle wait.2)

records_up : (base : Base) (g : Ghost) (n m : ℕ) (rs : List Record) → n ≤ m → RecordsOk base g n rs → RecordsOk base g m rs
records_up base g n m [] le ok = tt
records_up base g n m (r ∷ rs) le ok = (ok.0, ok.1, omega arith, ok.3, ok.4, ok.5, records_up base g n m rs le ok.6)

records_ghost : (base : Base) (g h : Ghost) (n : ℕ) (rs : List Record) → ((t : ℕ) → h.place t ≡ g.place t) → RecordsOk base g n rs → RecordsOk base h n rs
records_ghost base g h n [] same ok = tt
records_ghost base g h n (r ∷ rs) same ok = (same r.tid ∙ ok.0, ok.1, ok.2, ok.3, ok.4, ok.5, records_ghost base g h n rs same ok.6)

pub no_part : (rs : List Record) (v t : ℕ) → has_record t rs ≡ false → part_of rs v t ≡ []
no_part [] v t e = refl
no_part (r ∷ rs) v t e = grind (arith, no_part rs v t)

pub begin_keeps : (base : Base) (g : Ghost) (s : State) (i : Name) → Good base g s → (s.actor i).txn ≡ None
    → Good base (begun_ghost g s.clock.next_tid i) (record s { clock = begun_clock s.clock; actor = set_name s.actor i (begun_actor s.clock (s.actor i)) })
begin_keeps base g s i good idle =
    let k = s.clock in
    let h = begun_ghost g k.next_tid i in
    let a = begun_actor k (s.actor i) in
    let now = set_name s.actor i a in
    record {
      low = good.low;
      visible = good.visible;
      next_tid = (let n = good.next_tid in omega arith);
      next_vertex = good.next_vertex;
      pending = good.pending;
      records = records_ghost base g h (k.next_tid + 1) k.records (λ t. refl) (records_up base g k.next_tid (k.next_tid + 1) k.records (omega arith) good.records);
      recorded = good.recorded;
      outcomes = good.outcomes;
      nowhere = λ t up. good.nowhere t (omega arith);
      before = good.before;
      queue = begun_waits base g s i a InQueue k.queue good idle good.queue;
      groups = name_each (λ j (b : Actor). AllWait h now (InGroup j) b.group) s.actor i a
          (begun_waits base g s i a (InGroup i) (s.actor i).group good idle (good.groups i))
          (λ j n. begun_waits base g s i a (InGroup j) (s.actor j).group good idle (good.groups j));
      txns = name_each (λ j (b : Actor). (z : Transaction) → b.txn ≡ Some z → TxnOk base h (begun_clock k) j z) s.actor i a
          (λ z e. subst (TxnOk base h (begun_clock k) i) (some_is (begun_txn k.next_tid k.visible) z e) new_txn)
          (λ j n z e. old_txn j z (good.txns j z e));
      drawn = name_each (λ j (b : Actor). (z : Transaction) → b.txn ≡ Some z → (w : ℕ) → has_number w z.drawn ≡ true → Unused base h (begun_clock k) j w (s.row w)) s.actor i a
          (λ z e w d. absurd (false≢true (ap (λ (y : Transaction). has_number w y.drawn) (some_is (begun_txn k.next_tid k.visible) z e) ∙ d)))
          (λ j n z e w d. let u = good.drawn j z e w d in record { drawer = u.drawer; above = u.above; below = u.below; fresh = u.fresh });
      undrawn = good.undrawn;
      held = name_each (λ j (b : Actor). (z : Transaction) → b.txn ≡ Some z → (w : ℕ) → holds z w ≡ true → (s.row w).owner ≡ Some z.tid) s.actor i a
          (λ z e w d. absurd (false≢true (ap (λ (y : Transaction). holds y w) (some_is (begun_txn k.next_tid k.visible) z e) ∙ d)))
          (λ j n z e w d. good.held j z e w d);
      rows = λ w. row_ok (s.row w).owner w (good.rows w);
      active = λ t e has. runs t e (or_cases ((s.clock.next_tid == t) && (s.clock.visible == e)) (has_active t e s.clock.rows) has);
      learnt = name_each (λ j (b : Actor). LearntOk (begun_clock k) b.learnt) s.actor i a (learnt_up (good.learnt i)) (λ j n. learnt_up (good.learnt j));
      short = name_each (λ j (b : Actor). length b.group ≤ 64) s.actor i a (good.short i) (λ j n. good.short j);
      lawful = good.lawful;
    }
  where
    nobody : g.place s.clock.next_tid ≡ Nowhere
    nobody = good.nowhere s.clock.next_tid (omega arith)

    nothing : (v : ℕ) → part_of s.clock.records v s.clock.next_tid ≡ []
    nothing v = no_part s.clock.records v s.clock.next_tid (good.recorded s.clock.next_tid ∙ ap is_in_log nobody)

    not_in : (e : ℕ) → g.place s.clock.next_tid ≡ InLog e → ⊥
    not_in e is = nowhere_log (sym nobody ∙ is)
      where
        nowhere_log : Nowhere ≡ InLog e → ⊥
        nowhere_log q = (cc)

    new_txn : TxnOk base (begun_ghost g s.clock.next_tid i) (begun_clock s.clock) i (begun_txn s.clock.next_tid s.clock.visible)
    new_txn = record {
      who = set_at_here g.who s.clock.next_tid i s.clock.next_tid refl;
      above = good.next_tid;
      below = omega arith;
      read_above = good.low;
      read_below = omega arith;
      row = rw (eq-eqb s.clock.next_tid s.clock.next_tid refl, eq-eqb s.clock.visible s.clock.visible refl) refl;
      touched = λ v e. refl;
      stage = nobody;
      record_is = λ v. rw nobody (nothing v);
      pending = λ e is. absurd (not_in e is);
      later = λ e is. absurd (not_in e is);
      recorded = λ e is. absurd (not_in e is);
    }

    old_txn : (j : Name) (z : Transaction) → TxnOk base g s.clock j z → TxnOk base (begun_ghost g s.clock.next_tid i) (begun_clock s.clock) j z
    old_txn j z ok = record {
      who = set_at_there g.who s.clock.next_tid i z.tid (λ e. absurd (let b = ok.below in omega (arith, e))) ∙ ok.who;
      above = ok.above;
      below = (let b = ok.below in omega arith);
      read_above = ok.read_above;
      read_below = ok.read_below;
      row = rw ok.row (or_true ((s.clock.next_tid == z.tid) && (s.clock.visible == z.read)));
      touched = ok.touched;
      stage = ok.stage;
      record_is = ok.record_is;
      pending = ok.pending;
      later = ok.later;
      recorded = ok.recorded;
    }
      where
        or_true : (b : Bool) → (b || true) ≡ true
        or_true true = refl
        or_true false = refl

    runs : (t e : ℕ) → (((s.clock.next_tid == t) && (s.clock.visible == e)) ≡ true) ⊎ (has_active t e s.clock.rows ≡ true) → IsActive (begun_ghost g s.clock.next_tid i) (set_name s.actor i (begun_actor s.clock (s.actor i))) t e
    runs t e (inl both) =
        let p = and_parts (s.clock.next_tid == t) (s.clock.visible == e) both in
        let is = eqb-true s.clock.next_tid t p.0 in
        record {
          txn = begun_txn s.clock.next_tid s.clock.visible;
          is = ap (λ (b : Actor). b.txn) (set_name_here s.actor i (begun_actor s.clock (s.actor i)) (set_at g.who s.clock.next_tid i t) (set_at_here g.who s.clock.next_tid i t (sym is)));
          tid = is;
          read = eqb-true s.clock.visible e p.1;
        }
    runs t e (inr has) =
        let r = good.active t e has in
        let below : t < s.clock.next_tid = rw (← r.tid) (good.txns (g.who t) r.txn r.is).below in
        record {
          txn = r.txn;
          is = ap (λ j. (set_name s.actor i (begun_actor s.clock (s.actor i)) j).txn) (set_at_there g.who s.clock.next_tid i t (λ q. absurd (omega (arith, q))))
              ∙ ap (λ (b : Actor). b.txn) (set_name_there s.actor i (begun_actor s.clock (s.actor i)) (g.who t) (λ q. none_some r.txn (sym (ap (λ j. (s.actor j).txn) q ∙ idle) ∙ r.is))) ∙ r.is;
          tid = r.tid;
          read = r.read;
        }

    learnt_up : {l : Learnt} → LearntOk s.clock l → LearntOk (begun_clock s.clock) l
    learnt_up ok = record {
      visible = ok.visible;
      reads = λ t e has. ⊎_elim
          (λ (both : ((s.clock.next_tid == t) && (s.clock.visible == e)) ≡ true). let q = eqb-true s.clock.visible e (and_parts (s.clock.next_tid == t) (s.clock.visible == e) both).1 in let b = ok.visible in omega (arith, q))
          (λ (old : has_active t e s.clock.rows ≡ true). ok.reads t e old)
          (or_cases ((s.clock.next_tid == t) && (s.clock.visible == e)) (has_active t e s.clock.rows) has);
      next = (let b = ok.next in omega arith);
      tids = λ t e has. ⊎_elim
          (λ (both : ((s.clock.next_tid == t) && (s.clock.visible == e)) ≡ true). let q = eqb-true s.clock.next_tid t (and_parts (s.clock.next_tid == t) (s.clock.visible == e) both).0 in let b = ok.next in omega (arith, q))
          (λ (old : has_active t e s.clock.rows ≡ true). ok.tids t e old)
          (or_cases ((s.clock.next_tid == t) && (s.clock.visible == e)) (has_active t e s.clock.rows) has);
    }

    row_ok : (o : Option ℕ) (w : ℕ) → RowOkBy o base g s.clock.records s.actor w (s.row w) → RowOkBy o base (begun_ghost g s.clock.next_tid i) s.clock.records (set_name s.actor i (begun_actor s.clock (s.actor i))) w (s.row w)
    row_ok None w ok = ok
    row_ok (Some t) w ok =
        let below : t < s.clock.next_tid = rw (← ok.tid) (good.txns (g.who t) ok.txn ok.is).below in
        owned_move base g (begun_ghost g s.clock.next_tid i) s.clock.records s.actor (set_name s.actor i (begun_actor s.clock (s.actor i))) w (s.row w) t ok ok.txn
        (set_at_there g.who s.clock.next_tid i t (λ e. absurd (omega (arith, e))))
        (ap (λ (b : Actor). b.txn) (set_name_there s.actor i (begun_actor s.clock (s.actor i)) (g.who t) (λ e. none_some ok.txn (sym (ap (λ j. (s.actor j).txn) e ∙ idle) ∙ ok.is))) ∙ ok.is)
        (same_txn w ok.txn)
