-- A transaction goes on: draw, enqueue and outcome keep the facts.
use Rattle.std.proofs.Common.{◌≡◌, ◌≢◌, ℕ, ◌+◌, ◌<◌, ◌≤◌, true, ◌||◌, List, [], ◌∷◌, ◌++◌, length, refl, sym, ap, ◌∙◌, subst, arith, Option, Some, None, ⊎_elim, ◌⊎◌, inl, inr}
use Rattle.std.proofs.lemmas.Bool.{cases_eq, ne_eqb}
use Rattle.graph_model.specs.Places.{changes_about}
use Rattle.graph_model.specs.declared.graph.Base.{Base}
use Rattle.graph_model.specs.declared.record.Outcome.{Outcome}
use Rattle.graph_model.specs.declared.record.Outcome.TheVariants.{Committed, Failed}
use Rattle.graph_model.specs.declared.record.Record.{Record}
use Rattle.core_rows.specs.Rows.{Row}
use Rattle.core_states.proofs.Names.{set_at_here, set_at_there, set_name_here, set_name_there, name_each, some_is}
use Rattle.core_kept.specs.Good.{Place, Nowhere, InQueue, InGroup, InLog, InFault, Ghost, RowOkBy, published, StageOk, TxnOk, Waits, AllWait, is_in_log, outcome_at, RecordsOk, Unused, LearntOk, Good}
use Rattle.core_states.specs.Names.{Name, set_at, set_name}
use Rattle.core_states.specs.Numbers.{has_number, outcome_of, has_record}
use Rattle.core_states.specs.States.{State}
use Rattle.core_states.specs.Transactions.{is_working, holds, with_stage, with_txn}
use Rattle.core_states.specs.declared.actor.Actor.{Actor}
use Rattle.core_states.specs.declared.actor.Learnt.{Learnt}
use Rattle.core_states.specs.declared.clock.Clock.{Clock}
use Rattle.core_states.specs.declared.transaction.Stage.{Stage}
use Rattle.core_states.specs.declared.transaction.Stage.TheVariants.{Queued, Decided}
use Rattle.core_states.specs.declared.transaction.Transaction.{Transaction}
use Rattle.core_kept.proofs.Frames.{Same, row_frame_by, waits_frame, runs_frame}
use Rattle.core_kept.proofs.Changing.{Works, works, open_free, published_nowhere}
use Rattle.core_kept.proofs.Beginning.{none_some, owned_move, same_txn}

abbrev pub clock_with : Clock → ℕ → List Record → Clock
clock_with k n q = record { next_tid = k.next_tid; next_vertex = n; last = k.last; visible = k.visible; rows = k.rows; queue = q; pending = k.pending; outcomes = k.outcomes; records = k.records; moments = k.moments }

pub all_wait_map : (g h : Ghost) (actor now : Name → Actor) (at to : Place) (rs : List Record) → ((r : Record) → Waits g actor at r → Waits h now to r) → AllWait g actor at rs → AllWait h now to rs
all_wait_map g h actor now at to [] each wait = tt
all_wait_map g h actor now at to (r ∷ rs) each wait = (each r wait.0, wait.1, all_wait_map g h actor now at to rs each wait.2)

ghost_row : (o : Option ℕ) (base : Base) (g h : Ghost) (records : List Record) (actor : Name → Actor) (w : ℕ) (row : Row) → ((t : ℕ) → h.who t ≡ g.who t)
    → RowOkBy o base g records actor w row → RowOkBy o base h records actor w row
ghost_row None base g h records actor w row who ok = ok
ghost_row (Some t) base g h records actor w row who ok = owned_move base g h records actor actor w row t ok ok.txn (who t) ok.is (same_txn w ok.txn)

pub records_place : (base : Base) (g h : Ghost) (n : ℕ) (rs : List Record) → ((t e : ℕ) → g.place t ≡ InLog e → h.place t ≡ InLog e) → RecordsOk base g n rs → RecordsOk base h n rs
records_place base g h n [] same ok = tt
records_place base g h n (r ∷ rs) same ok = (same r.tid r.epoch ok.0, ok.1, ok.2, ok.3, ok.4, ok.5, records_place base g h n rs same ok.6)

pub record Moves (base : Base) (g h : Ghost) (s : State) (i : Name) (n : ℕ) (q : List Record) (x y : Transaction) (a : Actor) : Type 0 where
  pub before : (s.actor i).txn ≡ Some x
  pub after : a.txn ≡ Some y
  pub group : a.group ≡ (s.actor i).group
  pub learnt : LearntOk s.clock a.learnt
  pub who : (t : ℕ) → h.who t ≡ g.who t
  pub others : (t : ℕ) → t ≢ x.tid → h.place t ≡ g.place t
  pub logged : is_in_log (h.place x.tid) ≡ is_in_log (g.place x.tid)
  pub decided : outcome_at (h.place x.tid) ≡ outcome_at (g.place x.tid)
  pub kept : (e : ℕ) → g.place x.tid ≡ InLog e → h.place x.tid ≡ InLog e
  pub same : (w : ℕ) → Same w x y
  pub next : s.clock.next_vertex ≤ n
  pub drawer : (w : ℕ) → w < s.clock.next_vertex → h.drawer w ≡ g.drawer w
  pub queue : AllWait h (set_name s.actor i a) InQueue q
  pub waits : (j : Name) (r : Record) → Waits g s.actor (InGroup j) r → Waits h (set_name s.actor i a) (InGroup j) r
  pub txn : TxnOk base h (clock_with s.clock n q) i y
  pub drawn : (w : ℕ) → has_number w y.drawn ≡ true → Unused base h (clock_with s.clock n q) i w (s.row w)

pub moves_keep : (base : Base) (g h : Ghost) (s : State) (i : Name) (n : ℕ) (q : List Record) (x y : Transaction) (a : Actor) → Moves base g h s i n q x y a → Good base g s
    → Good base h (record s { clock = clock_with s.clock n q; actor = set_name s.actor i a })
moves_keep base g h s i n q x y a m good =
    let now = set_name s.actor i a in
    record {
      low = good.low;
      visible = good.visible;
      next_tid = good.next_tid;
      next_vertex = (let b = good.next_vertex in let c = m.next in omega arith);
      pending = good.pending;
      records = records_place base g h s.clock.next_tid s.clock.records place_kept good.records;
      recorded = λ t. good.recorded t ∙ sym (same_log t (cases_eq t x.tid));
      outcomes = λ t. good.outcomes t ∙ sym (same_outcome t (cases_eq t x.tid));
      nowhere = λ t up. m.others t (λ e. absurd (let b = (good.txns i x m.before).below in omega (arith, e))) ∙ good.nowhere t up;
      before = λ t lt. m.others t (λ e. absurd (let b = (good.txns i x m.before).above in omega (arith, e, lt))) ∙ good.before t lt;
      queue = m.queue;
      groups = name_each (λ j (b : Actor). AllWait h now (InGroup j) b.group) s.actor i a
          (subst (AllWait h now (InGroup i)) (sym m.group) (all_wait_map g h s.actor now (InGroup i) (InGroup i) (s.actor i).group (m.waits i) (good.groups i)))
          (λ j ne. all_wait_map g h s.actor now (InGroup j) (InGroup j) (s.actor j).group (m.waits j) (good.groups j));
      txns = name_each (λ j (b : Actor). (z : Transaction) → b.txn ≡ Some z → TxnOk base h (clock_with s.clock n q) j z) s.actor i a
          (λ z e. subst (TxnOk base h (clock_with s.clock n q) i) (some_is y z (sym m.after ∙ e)) m.txn)
          (λ j ne z e. other_txn j z (good.txns j z e) (m.others z.tid (λ q. ne (sym (good.txns j z e).who ∙ ap g.who q ∙ (good.txns i x m.before).who))));
      drawn = name_each (λ j (b : Actor). (z : Transaction) → b.txn ≡ Some z → (w : ℕ) → has_number w z.drawn ≡ true → Unused base h (clock_with s.clock n q) j w (s.row w)) s.actor i a
          (λ z e w d. m.drawn w (ap (λ (u : Transaction). has_number w u.drawn) (some_is y z (sym m.after ∙ e)) ∙ d))
          (λ j ne z e w d. let u = good.drawn j z e w d in record { drawer = m.drawer w u.below ∙ u.drawer; above = u.above; below = (let b = u.below in let c = m.next in omega arith); fresh = u.fresh });
      undrawn = λ v up. good.undrawn v (let c = m.next in omega arith);
      held = name_each (λ j (b : Actor). (z : Transaction) → b.txn ≡ Some z → (w : ℕ) → holds z w ≡ true → (s.row w).owner ≡ Some z.tid) s.actor i a
          (λ z e w d.
          let is = some_is y z (sym m.after ∙ e) in
          good.held i x m.before w (sym (m.same w).held ∙ ap (λ (u : Transaction). holds u w) is ∙ d) ∙ ap Some (sym (m.same w).tid) ∙ ap (λ (u : Transaction). Some u.tid) is)
          (λ j ne z e w d. good.held j z e w d);
      rows = λ w. ghost_row (s.row w).owner base g h s.clock.records now w (s.row w) m.who (row_frame_by (s.row w).owner base g s.clock.records s.actor i a x y w (s.row w) m.before m.after (m.same w) (good.rows w));
      active = λ t e has. let r = runs_frame g s.actor i a x y t e m.before m.after (m.same 0).tid (m.same 0).read (good.active t e has) in record { txn = r.txn; is = ap (λ j. (now j).txn) (m.who t) ∙ r.is; tid = r.tid; read = r.read };
      learnt = name_each (λ j (b : Actor). LearntOk (clock_with s.clock n q) b.learnt) s.actor i a (learnt_same m.learnt) (λ j n. learnt_same (good.learnt j));
      short = name_each (λ j (b : Actor). length b.group ≤ 64) s.actor i a (rw m.group (good.short i)) (λ j n. good.short j);
      lawful = good.lawful;
    }
  where
    learnt_same : {l : Learnt} → LearntOk s.clock l → LearntOk (clock_with s.clock n q) l
    learnt_same ok = record { visible = ok.visible; reads = ok.reads; next = ok.next; tids = ok.tids }

    place_kept : (t e : ℕ) → g.place t ≡ InLog e → h.place t ≡ InLog e
    place_kept t e is = ⊎_elim (λ (q : t ≡ x.tid). ap h.place q ∙ m.kept e (ap g.place (sym q) ∙ is)) (λ (ne : t ≢ x.tid). m.others t ne ∙ is) (cases_eq t x.tid)

    same_log : (t : ℕ) → (t ≡ x.tid) ⊎ (t ≢ x.tid) → is_in_log (h.place t) ≡ is_in_log (g.place t)
    same_log t (inl q) = ap (λ u. is_in_log (h.place u)) q ∙ m.logged ∙ ap (λ u. is_in_log (g.place u)) (sym q)
    same_log t (inr ne) = ap is_in_log (m.others t ne)

    same_outcome : (t : ℕ) → (t ≡ x.tid) ⊎ (t ≢ x.tid) → outcome_at (h.place t) ≡ outcome_at (g.place t)
    same_outcome t (inl q) = ap (λ u. outcome_at (h.place u)) q ∙ m.decided ∙ ap (λ u. outcome_at (g.place u)) (sym q)
    same_outcome t (inr ne) = ap outcome_at (m.others t ne)

    other_txn : (j : Name) (z : Transaction) → TxnOk base g s.clock j z → h.place z.tid ≡ g.place z.tid → TxnOk base h (clock_with s.clock n q) j z
    other_txn j z ok place = record {
      who = m.who z.tid ∙ ok.who;
      above = ok.above;
      below = ok.below;
      read_above = ok.read_above;
      read_below = ok.read_below;
      row = ok.row;
      touched = ok.touched;
      stage = subst (StageOk z.stage z.settled) (sym place) ok.stage;
      record_is = λ v. ok.record_is v ∙ ap (λ (p : Place). published p (changes_about v z.own)) (sym place);
      pending = λ e is. ok.pending e (sym place ∙ is);
      later = λ e is. ok.later e (sym place ∙ is);
      recorded = λ e is. ok.recorded e (sym place ∙ is);
    }

-- draw

abbrev pub drawn_txn : Transaction → ℕ → Transaction
drawn_txn x v = record { tid = x.tid; read = x.read; drawn = v ∷ x.drawn; touched = x.touched; settled = x.settled; own = x.own; stage = x.stage }

abbrev pub drawn_ghost : Ghost → ℕ → Name → Ghost
drawn_ghost g v i = record { who = g.who; drawer = set_at g.drawer v i; place = g.place }

pub draw_keeps : (base : Base) (g : Ghost) (s : State) (i : Name) (x : Transaction) → Good base g s → (s.actor i).txn ≡ Some x → is_working x ≡ true
    → Good base (drawn_ghost g s.clock.next_vertex i) (record s { clock = clock_with s.clock (s.clock.next_vertex + 1) s.clock.queue; actor = set_name s.actor i (with_txn (record (s.actor i) { drew = s.clock.next_vertex ∷ (s.actor i).drew }) (Some (drawn_txn x s.clock.next_vertex))) })
draw_keeps base g s i x good at working = moves_keep base g h s i (v + 1) s.clock.queue x y a (record {
  before = at;
  after = refl;
  group = refl;
  learnt = good.learnt i;
  who = λ t. refl;
  others = λ t ne. refl;
  logged = refl;
  decided = refl;
  kept = λ e is. is;
  same = λ w. record { tid = refl; read = refl; held = refl; own = refl };
  next = omega arith;
  drawer = λ w lt. set_at_there g.drawer v i w (λ e. absurd (omega (arith, e)));
  queue = all_wait_map g h s.actor (set_name s.actor i a) InQueue InQueue s.clock.queue (keep InQueue) good.queue;
  waits = λ j. keep (InGroup j);
  txn = (let ok = good.txns i x at in record {
    who = ok.who;
    above = ok.above;
    below = ok.below;
    read_above = ok.read_above;
    read_below = ok.read_below;
    row = ok.row;
    touched = ok.touched;
    stage = ok.stage;
    record_is = ok.record_is;
    pending = ok.pending;
    later = ok.later;
    recorded = ok.recorded;
  });
  drawn = λ w d. new_or_old w d (cases_eq w v);
}) good
  where
    v : ℕ
    v = s.clock.next_vertex

    h : Ghost
    h = drawn_ghost g v i

    y : Transaction
    y = drawn_txn x v

    a : Actor
    a = with_txn (record (s.actor i) { drew = s.clock.next_vertex ∷ (s.actor i).drew }) (Some y)

    keep : (p : Place) (r : Record) → Waits g s.actor p r → Waits h (set_name s.actor i a) p r
    keep p r wait = let u = waits_frame g s.actor i a x p r at (open_free x (works x working)) wait in
        record { txn = u.txn; is = u.is; tid = u.tid; read = u.read; own = u.own; stage = u.stage; place = u.place }

    new_or_old : (w : ℕ) → has_number w y.drawn ≡ true → (w ≡ v) ⊎ (w ≢ v) → Unused base h (clock_with s.clock (v + 1) s.clock.queue) i w (s.row w)
    new_or_old w d (inl e) = record { drawer = set_at_here g.drawer v i w e; above = (let b = good.next_vertex in omega (arith, e)); below = omega (arith, e); fresh = good.undrawn w (omega (arith, e)) }
    new_or_old w d (inr ne) =
        let u = good.drawn i x at w (rw (ne_eqb v w (λ e. ne (sym e))) at d) in
        record { drawer = set_at_there g.drawer v i w ne ∙ u.drawer; above = u.above; below = (let b = u.below in omega arith); fresh = u.fresh }

-- enqueue

abbrev pub queued_ghost : Ghost → ℕ → Ghost
queued_ghost g t = record { who = g.who; drawer = g.drawer; place = set_at g.place t InQueue }

abbrev record_of : Transaction → Record
record_of x = record { tid = x.tid; read = x.read; epoch = 0; changes = x.own }

pub has_record-append : (t : ℕ) (rs qs : List Record) → has_record t (rs ++ qs) ≡ (has_record t rs || has_record t qs)
has_record-append t [] qs = refl
has_record-append t (r ∷ rs) qs = grind (arith, has_record-append t rs qs)

all_wait_push : (g h : Ghost) (actor now : Name → Actor) (at : Place) (rs : List Record) (q : Record) → ((r : Record) → Waits g actor at r → Waits h now at r × (q.tid ≢ r.tid)) → Waits h now at q
    → AllWait g actor at rs → AllWait h now at (rs ++ q ∷ [])
all_wait_push g h actor now at [] q each mine wait = (mine, refl, tt)
all_wait_push g h actor now at (r ∷ rs) q each mine wait =
    let one = each r wait.0 in
    (one.0, has_record-append r.tid rs (q ∷ []) ∙ rw wait.1 (rw (ne_eqb q.tid r.tid one.1) refl), all_wait_push g h actor now at rs q each mine wait.2)

pub nowhere_of : (base : Base) (g : Ghost) (s : State) (i : Name) (x : Transaction) → Good base g s → (s.actor i).txn ≡ Some x → Works x → g.place x.tid ≡ Nowhere
nowhere_of base g s i x good at w = subst (λ (y : Stage). StageOk y x.settled (g.place x.tid)) w.stage (good.txns i x at).stage

pub enqueue_keeps : (base : Base) (g : Ghost) (s : State) (i : Name) (x : Transaction) (learnt : Learnt) → LearntOk s.clock learnt → Good base g s → (s.actor i).txn ≡ Some x → is_working x ≡ true
    → Good base (queued_ghost g x.tid) (record s {
      clock = clock_with s.clock s.clock.next_vertex (s.clock.queue ++ record_of x ∷ []);
      actor = set_name s.actor i (record (s.actor i) { txn = Some (with_stage x Queued); learnt = learnt; looked = None });
    })
enqueue_keeps base g s i x learnt learnt_ok good at working = moves_keep base g h s i s.clock.next_vertex (s.clock.queue ++ record_of x ∷ []) x y a (record {
  before = at;
  after = refl;
  group = refl;
  learnt = learnt_ok;
  who = λ t. refl;
  others = λ t ne. set_at_there g.place x.tid InQueue t ne;
  logged = ap is_in_log here ∙ ap is_in_log (sym nowhere);
  decided = ap outcome_at here ∙ ap outcome_at (sym nowhere);
  kept = λ e is. absurd (apart e (sym nowhere ∙ is));
  same = λ w. record { tid = refl; read = refl; held = refl; own = refl };
  next = omega arith;
  drawer = λ w lt. refl;
  queue = all_wait_push g h s.actor (set_name s.actor i a) InQueue s.clock.queue (record_of x) (λ r wait. (keep InQueue r wait (λ e. queue_apart e), λ e. queue_apart (sym nowhere ∙ ap g.place e ∙ wait.place))) mine good.queue;
  waits = λ j r wait. keep (InGroup j) r wait (λ e. group_apart j e);
  txn = (let ok = good.txns i x at in record {
    who = ok.who;
    above = ok.above;
    below = ok.below;
    read_above = ok.read_above;
    read_below = ok.read_below;
    row = ok.row;
    touched = ok.touched;
    stage = (w.settled, λ e. queue_apart (sym e ∙ here));
    record_is = λ v. ok.record_is v ∙ published_nowhere (g.place x.tid) (changes_about v x.own) nowhere ∙ sym (rw here refl);
    pending = λ e is. absurd (log_apart e (sym here ∙ is));
    later = λ e is. absurd (log_apart e (sym here ∙ is));
    recorded = λ e is. absurd (log_apart e (sym here ∙ is));
  });
  drawn = λ v d. let u = good.drawn i x at v d in record { drawer = u.drawer; above = u.above; below = u.below; fresh = u.fresh };
}) good
  where
    h : Ghost
    h = queued_ghost g x.tid

    y : Transaction
    y = with_stage x Queued

    a : Actor
    a = record (s.actor i) { txn = Some (with_stage x Queued); learnt = learnt; looked = None }

    w : Works x
    w = works x working

    nowhere : g.place x.tid ≡ Nowhere
    nowhere = nowhere_of base g s i x good at w

    here : set_at g.place x.tid InQueue x.tid ≡ InQueue
    here = set_at_here g.place x.tid InQueue x.tid refl

    apart : (e : ℕ) → Nowhere ≡ InLog e → ⊥
    apart e q = (cc)

    log_apart : (e : ℕ) → InQueue ≡ InLog e → ⊥
    log_apart e q = (cc)

    queue_apart : Nowhere ≡ InQueue → ⊥
    queue_apart q = (cc)

    group_apart : (j : Name) → Nowhere ≡ InGroup j → ⊥
    group_apart j q = (cc)

    keep : (p : Place) (r : Record) → Waits g s.actor p r → (Nowhere ≡ p → ⊥) → Waits h (set_name s.actor i a) p r
    keep p r wait away = let u = waits_frame g s.actor i a x p r at (open_free x w) wait in
        record { txn = u.txn; is = u.is; tid = u.tid; read = u.read; own = u.own; stage = u.stage; place = set_at_there g.place x.tid InQueue r.tid (λ e. away (sym nowhere ∙ ap g.place (sym e) ∙ wait.place)) ∙ u.place }

    mine : Waits h (set_name s.actor i a) InQueue (record_of x)
    mine = record { txn = y; is = ap (λ (b : Actor). b.txn) (set_name_here s.actor i a (g.who x.tid) (good.txns i x at).who); tid = refl; read = refl; own = refl; stage = refl; place = here }

-- outcome

decided_stage : (p : Place) (o : Outcome) (settled : List ℕ) → outcome_at p ≡ Some o → StageOk (Decided o) settled p
decided_stage Nowhere o settled e = absurd (cc)
decided_stage InQueue o settled e = absurd (cc)
decided_stage (InGroup i) o settled e = absurd (cc)
decided_stage (InLog n) (Committed m) settled e = (cc)
decided_stage (InLog n) (Failed b a) settled e = absurd (cc)
decided_stage (InFault b a) (Committed m) settled e = absurd (cc)
decided_stage (InFault b a) (Failed c d) settled e = (cc)

pub hear_keeps : (base : Base) (g : Ghost) (s : State) (i : Name) (x : Transaction) (o : Outcome) → Good base g s → (s.actor i).txn ≡ Some x → outcome_of x.tid s.clock.outcomes ≡ Some o
    → Good base g (record s { actor = set_name s.actor i (with_txn (s.actor i) (Some (with_stage x (Decided o)))) })
hear_keeps base g s i x o good at kept = moves_keep base g g s i s.clock.next_vertex s.clock.queue x y a (record {
  before = at;
  after = refl;
  group = refl;
  learnt = good.learnt i;
  who = λ t. refl;
  others = λ t ne. refl;
  logged = refl;
  decided = refl;
  kept = λ e is. is;
  same = λ w. record { tid = refl; read = refl; held = refl; own = refl };
  next = omega arith;
  drawer = λ w lt. refl;
  queue = all_wait_map g g s.actor (set_name s.actor i a) InQueue InQueue s.clock.queue (λ r wait. keep InQueue r wait refl) good.queue;
  waits = λ j r wait. keep (InGroup j) r wait refl;
  txn = (let ok = good.txns i x at in record {
    who = ok.who;
    above = ok.above;
    below = ok.below;
    read_above = ok.read_above;
    read_below = ok.read_below;
    row = ok.row;
    touched = ok.touched;
    stage = decided_stage (g.place x.tid) o x.settled known;
    record_is = ok.record_is;
    pending = ok.pending;
    later = ok.later;
    recorded = ok.recorded;
  });
  drawn = λ v d. good.drawn i x at v d;
}) good
  where
    y : Transaction
    y = with_stage x (Decided o)

    a : Actor
    a = with_txn (s.actor i) (Some (with_stage x (Decided o)))

    known : outcome_at (g.place x.tid) ≡ Some o
    known = sym (good.outcomes x.tid) ∙ kept

    keep : (p : Place) (r : Record) → Waits g s.actor p r → outcome_at p ≡ None → Waits g (set_name s.actor i a) p r
    keep p r wait undecided =
        let away : g.who r.tid ≢ i = λ e. none_some o (sym (ap outcome_at wait.place ∙ undecided) ∙ ap (λ t. outcome_at (g.place t)) (sym wait.tid ∙ ap (λ (z : Transaction). z.tid) (some_is wait.txn x (sym wait.is ∙ ap (λ j. (s.actor j).txn) e ∙ at))) ∙ known) in
        record { txn = wait.txn; is = ap (λ (b : Actor). b.txn) (set_name_there s.actor i a (g.who r.tid) away) ∙ wait.is; tid = wait.tid; read = wait.read; own = wait.own; stage = wait.stage; place = wait.place }
