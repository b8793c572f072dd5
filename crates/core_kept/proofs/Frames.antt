-- An event changes one actor and one row. What holds of the others stays.
use Rattle.std.proofs.Common.{◌≡◌, ◌≢◌, ℕ, ◌<◌, ◌≤◌, true, List, [], ◌∷◌, length, refl, sym, ap, ◌∙◌, subst, arith, Option, Some, None, ⊎_elim, ◌⊎◌, inl, inr}
use Rattle.std.proofs.lemmas.Bool.{cases_eq}
use Rattle.graph_model.specs.Places.{changes_about}
use Rattle.graph_model.specs.declared.graph.Base.{Base}
use Rattle.graph_model.specs.declared.record.Record.{Record}
use Rattle.core_rows.specs.Rows.{Row, fresh_row}
use Rattle.core_states.proofs.Names.{some_is, set_at_here, set_at_there, set_name_here, set_name_there, cases_name, at_each, name_each}
use Rattle.core_kept.specs.Good.{Place, InQueue, InGroup, Ghost, Owned, RowOkBy, RowOk, TxnOk, Waits, AllWait, Unused, IsActive, LearntOk, Good}
use Rattle.core_states.specs.Names.{Name, set_at, set_name}
use Rattle.core_states.specs.Numbers.{has_number}
use Rattle.core_states.specs.States.{State, after}
use Rattle.core_states.specs.Transactions.{holds}
use Rattle.core_states.specs.declared.actor.Actor.{Actor}
use Rattle.core_states.specs.declared.transaction.Stage.TheVariants.{Queued}
use Rattle.core_states.specs.declared.transaction.Transaction.{Transaction}

-- A transaction changed, but not at this vertex.
pub record Same (w : ℕ) (x y : Transaction) : Type 0 where
  pub tid : y.tid ≡ x.tid
  pub read : y.read ≡ x.read
  pub held : holds y w ≡ holds x w
  pub own : changes_about w y.own ≡ changes_about w x.own

pub owned_frame : (base : Base) (g : Ghost) (records : List Record) (actor : Name → Actor) (i : Name) (a : Actor) (x y : Transaction) (w : ℕ) (row : Row) (t : ℕ)
    → (actor i).txn ≡ Some x → a.txn ≡ Some y → Same w x y → Owned base g records actor w row t → Owned base g records (set_name actor i a) w row t
owned_frame base g records actor i a x y w row t before after same owned = ⊎_elim here there (cases_name (g.who t) i)
  where
    here : g.who t ≡ i → Owned base g records (set_name actor i a) w row t
    here e =
        let was : owned.txn ≡ x = some_is owned.txn x (sym owned.is ∙ ap (λ j. (actor j).txn) e ∙ before) in
        record {
          txn = y;
          is = ap (λ (b : Actor). b.txn) (set_name_here actor i a (g.who t) e) ∙ after;
          tid = same.tid ∙ ap (λ (z : Transaction). z.tid) (sym was) ∙ owned.tid;
          held = same.held ∙ ap (λ (z : Transaction). holds z w) (sym was) ∙ owned.held;
          read = rw same.read (rw (← was) owned.read);
          last = owned.last;
          fits = rw same.own (rw (← was) owned.fits);
        }

    there : g.who t ≢ i → Owned base g records (set_name actor i a) w row t
    there n = record {
      txn = owned.txn;
      is = ap (λ (b : Actor). b.txn) (set_name_there actor i a (g.who t) n) ∙ owned.is;
      tid = owned.tid;
      held = owned.held;
      read = owned.read;
      last = owned.last;
      fits = owned.fits;
    }

pub row_frame_by : (o : Option ℕ) (base : Base) (g : Ghost) (records : List Record) (actor : Name → Actor) (i : Name) (a : Actor) (x y : Transaction) (w : ℕ) (row : Row)
    → (actor i).txn ≡ Some x → a.txn ≡ Some y → Same w x y → RowOkBy o base g records actor w row → RowOkBy o base g records (set_name actor i a) w row
row_frame_by None base g records actor i a x y w row before after same ok = ok
row_frame_by (Some t) base g records actor i a x y w row before after same ok = owned_frame base g records actor i a x y w row t before after same ok

-- A transaction that goes on still runs.
pub runs_frame : (g : Ghost) (actor : Name → Actor) (i : Name) (a : Actor) (x y : Transaction) (t e : ℕ)
    → (actor i).txn ≡ Some x → a.txn ≡ Some y → y.tid ≡ x.tid → y.read ≡ x.read → IsActive g actor t e → IsActive g (set_name actor i a) t e
runs_frame g actor i a x y t e before after tid read run = ⊎_elim
    (λ (q : g.who t ≡ i).
    let was : run.txn ≡ x = some_is run.txn x (sym run.is ∙ ap (λ j. (actor j).txn) q ∙ before) in
    record {
      txn = y;
      is = ap (λ (b : Actor). b.txn) (set_name_here actor i a (g.who t) q) ∙ after;
      tid = tid ∙ ap (λ (z : Transaction). z.tid) (sym was) ∙ run.tid;
      read = read ∙ ap (λ (z : Transaction). z.read) (sym was) ∙ run.read;
    })
    (λ (n : g.who t ≢ i). record { txn = run.txn; is = ap (λ (b : Actor). b.txn) (set_name_there actor i a (g.who t) n) ∙ run.is; tid = run.tid; read = run.read })
    (cases_name (g.who t) i)

-- An actor that is not waiting changes.
pub waits_frame : (g : Ghost) (actor : Name → Actor) (i : Name) (a : Actor) (x : Transaction) (at : Place) (r : Record)
    → (actor i).txn ≡ Some x → (x.stage ≡ Queued → ⊥) → Waits g actor at r → Waits g (set_name actor i a) at r
waits_frame g actor i a x at r before free wait =
    let away : g.who r.tid ≢ i = λ e. free (ap (λ (z : Transaction). z.stage) (sym (some_is wait.txn x (sym wait.is ∙ ap (λ j. (actor j).txn) e ∙ before))) ∙ wait.stage) in
    record {
      txn = wait.txn;
      is = ap (λ (b : Actor). b.txn) (set_name_there actor i a (g.who r.tid) away) ∙ wait.is;
      tid = wait.tid;
      read = wait.read;
      own = wait.own;
      stage = wait.stage;
      place = wait.place;
    }

pub all_wait_frame : (g : Ghost) (actor : Name → Actor) (i : Name) (a : Actor) (x : Transaction) (at : Place) (rs : List Record)
    → (actor i).txn ≡ Some x → (x.stage ≡ Queued → ⊥) → AllWait g actor at rs → AllWait g (set_name actor i a) at rs
all_wait_frame g actor i a x at [] before free wait = tt
all_wait_frame g actor i a x at (r ∷ rs) before free wait = (waits_frame g actor i a x at r before free wait.0, wait.1, all_wait_frame g actor i a x at rs before free wait.2)

-- What an event on vertex v by actor i has to show.
pub record Local (base : Base) (g : Ghost) (s : State) (i : Name) (v : ℕ) (x y : Transaction) (a : Actor) (row : Row) : Type 0 where
  pub before : (s.actor i).txn ≡ Some x
  pub after : a.txn ≡ Some y
  pub group : a.group ≡ (s.actor i).group
  pub learnt : a.learnt ≡ (s.actor i).learnt
  pub tid : y.tid ≡ x.tid
  pub read : y.read ≡ x.read
  pub free : x.stage ≡ Queued → ⊥
  pub same : (w : ℕ) → w ≢ v → Same w x y
  pub txn : TxnOk base g s.clock i y
  pub drawn : (w : ℕ) → has_number w y.drawn ≡ true → (has_number w x.drawn ≡ true) × (w ≢ v)
  pub used : (s.row v) ≡ fresh_row → has_number v x.drawn ≡ true
  pub below : v < s.clock.next_vertex
  pub mine : (t : ℕ) → (s.row v).owner ≡ Some t → t ≡ x.tid
  pub held : holds y v ≡ true → row.owner ≡ Some y.tid
  pub row_ok : RowOk base g s.clock.records (set_name s.actor i a) v row

abbrev pub row_after : State → Name → ℕ → Actor → Row → State
row_after s i v a row = record s { actor = set_name s.actor i a; row = set_at s.row v row }

pub local_keeps : (base : Base) (g : Ghost) (s : State) (i : Name) (v : ℕ) (x y : Transaction) (a : Actor) (row : Row)
    → Local base g s i v x y a row → Good base g s → Good base g (row_after s i v a row)
local_keeps base g s i v x y a row l good = record {
  low = good.low;
  visible = good.visible;
  next_tid = good.next_tid;
  next_vertex = good.next_vertex;
  pending = good.pending;
  records = good.records;
  recorded = good.recorded;
  outcomes = good.outcomes;
  nowhere = good.nowhere;
  before = good.before;
  queue = all_wait_frame g s.actor i a x InQueue s.clock.queue l.before l.free good.queue;
  groups = name_each (λ j (b : Actor). AllWait g (set_name s.actor i a) (InGroup j) b.group) s.actor i a
      (subst (AllWait g (set_name s.actor i a) (InGroup i)) (sym l.group) (all_wait_frame g s.actor i a x (InGroup i) (s.actor i).group l.before l.free (good.groups i)))
      (λ j n. all_wait_frame g s.actor i a x (InGroup j) (s.actor j).group l.before l.free (good.groups j));
  txns = name_each (λ j (b : Actor). (z : Transaction) → b.txn ≡ Some z → TxnOk base g s.clock j z) s.actor i a
      (λ z e. subst (TxnOk base g s.clock i) (some_is y z (sym l.after ∙ e)) l.txn)
      (λ j n z e. good.txns j z e);
  drawn = name_each (λ j (b : Actor). (z : Transaction) → b.txn ≡ Some z → (w : ℕ) → has_number w z.drawn ≡ true → Unused base g s.clock j w (set_at s.row v row w)) s.actor i a
      (λ z e w h.
      let was = l.drawn w (rw (some_is y z (sym l.after ∙ e)) h) in
      subst (Unused base g s.clock i w) (sym (set_at_there s.row v row w was.1)) (good.drawn i x l.before w was.0))
      (λ j n z e w h. drawn_there j n z e w h (cases_eq w v));
  undrawn = λ w up. rw (set_at_there s.row v row w (λ e. absurd (omega (arith, e, l.below)))) (good.undrawn w up);
  held = name_each (λ j (b : Actor). (z : Transaction) → b.txn ≡ Some z → (w : ℕ) → holds z w ≡ true → (set_at s.row v row w).owner ≡ Some z.tid) s.actor i a
      (λ z e w h. held_here z (some_is y z (sym l.after ∙ e)) w h (cases_eq w v))
      (λ j n z e w h. held_there j n z e w h (cases_eq w v));
  rows = at_each (λ w (r : Row). RowOk base g s.clock.records (set_name s.actor i a) w r) s.row v row
      l.row_ok
      (λ w n. row_frame_by (s.row w).owner base g s.clock.records s.actor i a x y w (s.row w) l.before l.after (l.same w n) (good.rows w));
  active = λ t e has. runs_frame g s.actor i a x y t e l.before l.after l.tid l.read (good.active t e has);
  learnt = name_each (λ j (b : Actor). LearntOk s.clock b.learnt) s.actor i a (subst (LearntOk s.clock) (sym l.learnt) (good.learnt i)) (λ j n. good.learnt j);
  short = name_each (λ j (b : Actor). length b.group ≤ 64) s.actor i a (rw l.group (good.short i)) (λ j n. good.short j);
  lawful = good.lawful;
}
  where
    drawn_there : (j : Name) → j ≢ i → (z : Transaction) → (s.actor j).txn ≡ Some z → (w : ℕ) → has_number w z.drawn ≡ true → (w ≡ v) ⊎ (w ≢ v) → Unused base g s.clock j w (set_at s.row v row w)
    drawn_there j n z e w h (inl at) =
        let theirs = good.drawn j z e v (subst (λ (u : ℕ). has_number u z.drawn ≡ true) at h) in
        absurd (n (sym theirs.drawer ∙ (good.drawn i x l.before v (l.used theirs.fresh)).drawer))
    drawn_there j n z e w h (inr away) = subst (Unused base g s.clock j w) (sym (set_at_there s.row v row w away)) (good.drawn j z e w h)

    held_here : (z : Transaction) → y ≡ z → (w : ℕ) → holds z w ≡ true → (w ≡ v) ⊎ (w ≢ v) → (set_at s.row v row w).owner ≡ Some z.tid
    held_here z is w h (inl at) =
        ap (λ (r : Row). r.owner) (set_at_here s.row v row w at)
        ∙ l.held (ap (λ (u : Transaction). holds u v) is ∙ ap (holds z) (sym at) ∙ h) ∙ ap (λ (u : Transaction). Some u.tid) is
    held_here z is w h (inr away) =
        let same = l.same w away in
        ap (λ (r : Row). r.owner) (set_at_there s.row v row w away)
        ∙ good.held i x l.before w (sym same.held ∙ ap (λ (u : Transaction). holds u w) is ∙ h) ∙ ap Some (sym same.tid) ∙ ap (λ (u : Transaction). Some u.tid) is

    held_there : (j : Name) → j ≢ i → (z : Transaction) → (s.actor j).txn ≡ Some z → (w : ℕ) → holds z w ≡ true → (w ≡ v) ⊎ (w ≢ v) → (set_at s.row v row w).owner ≡ Some z.tid
    held_there j n z e w h (inl at) =
        let same = l.mine z.tid (good.held j z e v (ap (holds z) (sym at) ∙ h)) in
        absurd (n (sym (good.txns j z e).who ∙ ap g.who same ∙ (good.txns i x l.before).who))
    held_there j n z e w h (inr away) = ap (λ (r : Row). r.owner) (set_at_there s.row v row w away) ∙ good.held j z e w h

-- Only the transactions and the groups of the actors count.
waits_same : (g : Ghost) (actor now : Name → Actor) (at : Place) (r : Record) → ((j : Name) → (now j).txn ≡ (actor j).txn) → Waits g actor at r → Waits g now at r
waits_same g actor now at r same wait = record {
  txn = wait.txn;
  is = same (g.who r.tid) ∙ wait.is;
  tid = wait.tid;
  read = wait.read;
  own = wait.own;
  stage = wait.stage;
  place = wait.place;
}

all_wait_same : (g : Ghost) (actor now : Name → Actor) (at : Place) (rs : List Record) → ((j : Name) → (now j).txn ≡ (actor j).txn) → AllWait g actor at rs → AllWait g now at rs
all_wait_same g actor now at [] same wait = tt
all_wait_same g actor now at (r ∷ rs) same wait = (waits_same g actor now at r same wait.0, wait.1, all_wait_same g actor now at rs same wait.2)

row_same : (o : Option ℕ) (base : Base) (g : Ghost) (records : List Record) (actor now : Name → Actor) (w : ℕ) (row : Row) → ((j : Name) → (now j).txn ≡ (actor j).txn)
    → RowOkBy o base g records actor w row → RowOkBy o base g records now w row
row_same None base g records actor now w row same ok = ok
row_same (Some t) base g records actor now w row same ok = record {
  txn = ok.txn;
  is = same (g.who t) ∙ ok.is;
  tid = ok.tid;
  held = ok.held;
  read = ok.read;
  last = ok.last;
  fits = ok.fits;
}

pub actors_keep : (base : Base) (g : Ghost) (s : State) (now : Name → Actor) → ((j : Name) → (now j).txn ≡ (s.actor j).txn) → ((j : Name) → (now j).group ≡ (s.actor j).group) → ((j : Name) → LearntOk s.clock (now j).learnt)
    → Good base g s → Good base g (record s { actor = now })
actors_keep base g s now same groups learnt good = record {
  low = good.low;
  visible = good.visible;
  next_tid = good.next_tid;
  next_vertex = good.next_vertex;
  pending = good.pending;
  records = good.records;
  recorded = good.recorded;
  outcomes = good.outcomes;
  nowhere = good.nowhere;
  before = good.before;
  queue = all_wait_same g s.actor now InQueue s.clock.queue same good.queue;
  groups = λ i. subst (AllWait g now (InGroup i)) (sym (groups i)) (all_wait_same g s.actor now (InGroup i) (s.actor i).group same (good.groups i));
  txns = λ i x e. good.txns i x (sym (same i) ∙ e);
  drawn = λ i x e. good.drawn i x (sym (same i) ∙ e);
  undrawn = good.undrawn;
  held = λ i x e. good.held i x (sym (same i) ∙ e);
  rows = λ v. row_same (s.row v).owner base g s.clock.records s.actor now v (s.row v) same (good.rows v);
  active = λ t e has. let r = good.active t e has in record { txn = r.txn; is = same (g.who t) ∙ r.is; tid = r.tid; read = r.read };
  learnt = learnt;
  short = λ i. rw (groups i) (good.short i);
  lawful = good.lawful;
}

-- one actor with the same transaction and group
pub quiet_keeps : (base : Base) (g : Ghost) (s : State) (i : Name) (a : Actor) → a.txn ≡ (s.actor i).txn → a.group ≡ (s.actor i).group → LearntOk s.clock a.learnt
    → Good base g s → Good base g (record s { actor = set_name s.actor i a })
quiet_keeps base g s i a same group learnt good = actors_keep base g s (set_name s.actor i a)
    (name_each (λ j (b : Actor). b.txn ≡ (s.actor j).txn) s.actor i a same (λ j n. refl))
    (name_each (λ j (b : Actor). b.group ≡ (s.actor j).group) s.actor i a group (λ j n. refl))
    (name_each (λ j (b : Actor). LearntOk s.clock b.learnt) s.actor i a learnt (λ j n. good.learnt j)) good
