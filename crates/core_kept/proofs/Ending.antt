-- A transaction ends: done and end keep the facts.
use Rattle.std.proofs.Common.{◌≡◌, ◌≢◌, ℕ, ◌≤◌, Bool, true, false, ◌&&◌, ◌||◌, List, [], ◌∷◌, length, refl, sym, ap, ◌∙◌, subst, arith, Option, Some, None, ⊎_elim}
use Rattle.std.proofs.lemmas.Bool.{eq-eqb, eqb-true, and_parts, false≢true, or_cases}
use Rattle.std.proofs.lemmas.Bool.Decides.{nat_tests}
use Rattle.std.specs.Prelude.{◌==◌}
use Rattle.graph_model.specs.declared.graph.Base.{Base}
use Rattle.edge_log.specs.Entries.{visible}
use Rattle.core_states.proofs.Names.{set_name_there, name_each, some_is}
use Rattle.core_kept.specs.Good.{InQueue, InGroup, Ghost, RowOkBy, TxnOk, AllWait, AllAbove, Unused, IsActive, LearntOk, Good}
use Rattle.core_states.specs.Names.{Name, set_name}
use Rattle.core_states.specs.Numbers.{has_number, all_in, without_active, has_active, visible_of}
use Rattle.core_states.specs.States.{State, after}
use Rattle.core_states.specs.Transactions.{holds}
use Rattle.core_states.specs.declared.actor.Actor.{Actor}
use Rattle.core_states.specs.declared.actor.Learnt.{Learnt}
use Rattle.core_states.specs.declared.clock.Active.{Active}
use Rattle.core_states.specs.declared.clock.Clock.{Clock}
use Rattle.core_states.specs.declared.transaction.Stage.TheVariants.{Queued}
use Rattle.core_states.specs.declared.transaction.Transaction.{Transaction}
use Rattle.core_kept.proofs.Frames.{all_wait_frame}
use Rattle.core_kept.proofs.Beginning.{none_some, owned_move, same_txn}

pub visible_up : (low high : ℕ) (ps : List Active) → low ≤ high → AllAbove low high ps → low ≤ visible_of high ps
visible_up low high [] le above = le
visible_up low high (x ∷ xs) le above = let ih = visible_up low high xs le above.2 in let a = above.0 in omega arith

pub visible_low : (high : ℕ) (ps : List Active) → visible_of high ps ≤ high
visible_low high [] = omega arith
visible_low high (x ∷ xs) = let ih = visible_low high xs in omega arith

above_down : (low n high : ℕ) (ps : List Active) → n ≤ low → AllAbove low high ps → AllAbove n high ps
above_down low n high [] le above = tt
above_down low n high (x ∷ xs) le above = ((let a = above.0 in omega arith), above.1, above_down low n high xs le above.2)

pub visible_above : (low high : ℕ) (ps : List Active) → AllAbove low high ps → AllAbove (visible_of high ps) high ps
visible_above low high [] above = tt
visible_above low high (x ∷ xs) above =
    ((let a = above.0 in omega arith), above.1, above_down (visible_of high xs) (visible_of high (x ∷ xs)) high xs (omega arith) (visible_above low high xs above.2))

pub above_without : (low high t : ℕ) (ps : List Active) → AllAbove low high ps → AllAbove low high (without_active t ps)
above_without low high t [] above = tt
above_without low high t (x ∷ xs) above = grind (arith, above_without low high t xs above.2)

pub active_without : (t u e : ℕ) (ps : List Active) → u ≢ t → has_active u e ps ≡ true → has_active u e (without_active t ps) ≡ true
active_without t u e [] ne has = has
active_without t u e (x ∷ xs) ne has = grind (arith, nat_tests, active_without t u e xs ne)

active_left : (t u e : ℕ) (ps : List Active) → has_active u e (without_active t ps) ≡ true → (has_active u e ps ≡ true) × (u ≢ t)
active_left t u e [] has = absurd (false≢true has)
active_left t u e (x ∷ xs) has = by_tid (x.tid == t) refl (active_left t u e xs)
  where
    by_tid : (b : Bool) → (x.tid == t) ≡ b → (has_active u e (without_active t xs) ≡ true → (has_active u e xs ≡ true) × (u ≢ t)) → (has_active u e (x ∷ xs) ≡ true) × (u ≢ t)
    by_tid true q ih = let more = ih (rw q at has) in (rw more.0 (or_true ((x.tid == u) && (x.epoch == e))), more.1)
      where
        or_true : (b : Bool) → (b || true) ≡ true
        or_true true = refl
        or_true false = refl
    by_tid false q ih = ⊎_elim
        (λ (here : ((x.tid == u) && (x.epoch == e)) ≡ true). (rw here refl, λ same. false≢true (sym q ∙ eq-eqb x.tid t (eqb-true x.tid u (and_parts (x.tid == u) (x.epoch == e) here).0 ∙ same))))
        (λ (there : has_active u e (without_active t xs) ≡ true). let more = ih there in (rw more.0 (or_true ((x.tid == u) && (x.epoch == e))), more.1))
        (or_cases ((x.tid == u) && (x.epoch == e)) (has_active u e (without_active t xs)) (rw q at has))
      where
        or_true : (b : Bool) → (b || true) ≡ true
        or_true true = refl
        or_true false = refl

all_in_has : (v : ℕ) (xs ys : List ℕ) → all_in xs ys ≡ true → has_number v xs ≡ true → has_number v ys ≡ true
all_in_has v [] ys all has = absurd (false≢true has)
all_in_has v (x ∷ xs) ys all has = grind (arith, nat_tests, all_in_has v xs ys)

pub let_go : (x : Transaction) → all_in x.touched x.settled ≡ true → (w : ℕ) → holds x w ≡ false
let_go x all w = by_touch (has_number w x.touched) refl
  where
    by_touch : (b : Bool) → has_number w x.touched ≡ b → holds x w ≡ false
    by_touch false e = rw e refl
    by_touch true e = rw (e, all_in_has w x.touched x.settled all e) refl

abbrev pub clock_less : Clock → List Active → List Active → ℕ → Clock
clock_less k rows pending visible = record { next_tid = k.next_tid; next_vertex = k.next_vertex; last = k.last; visible = visible; rows = rows; queue = k.queue; pending = pending; outcomes = k.outcomes; records = k.records; moments = k.moments }

pub record Finishes (s : State) (i : Name) (x : Transaction) (a : Actor) (rows pending : List Active) (visible : ℕ) : Type 0 where
  pub before : (s.actor i).txn ≡ Some x
  pub after : a.txn ≡ None
  pub group : a.group ≡ (s.actor i).group
  pub learnt : a.learnt ≡ (s.actor i).learnt
  pub left : (t e : ℕ) → has_active t e rows ≡ true → (has_active t e s.clock.rows ≡ true) × (t ≢ x.tid)
  pub free : x.stage ≡ Queued → ⊥
  pub none : (w : ℕ) → holds x w ≡ false
  pub up : s.clock.visible ≤ visible
  pub low : visible ≤ s.clock.last
  pub above : AllAbove visible s.clock.last pending
  pub others : (t e : ℕ) → t ≢ x.tid → has_active t e s.clock.rows ≡ true → has_active t e rows ≡ true
  pub waiting : (t e : ℕ) → t ≢ x.tid → has_active t e s.clock.pending ≡ true → has_active t e pending ≡ true

pub finish_keeps : (base : Base) (g : Ghost) (s : State) (i : Name) (x : Transaction) (a : Actor) (rows pending : List Active) (visible : ℕ) → Finishes s i x a rows pending visible → Good base g s
    → Good base g (record s { clock = clock_less s.clock rows pending visible; actor = set_name s.actor i a })
finish_keeps base g s i x a rows pending visible f good =
    let now = set_name s.actor i a in
    let k = clock_less s.clock rows pending visible in
    record {
      low = (let b = good.low in let c = f.up in omega arith);
      visible = f.low;
      next_tid = good.next_tid;
      next_vertex = good.next_vertex;
      pending = f.above;
      records = good.records;
      recorded = good.recorded;
      outcomes = good.outcomes;
      nowhere = good.nowhere;
      before = good.before;
      queue = all_wait_frame g s.actor i a x InQueue s.clock.queue f.before f.free good.queue;
      groups = name_each (λ j (b : Actor). AllWait g now (InGroup j) b.group) s.actor i a
          (subst (AllWait g now (InGroup i)) (sym f.group) (all_wait_frame g s.actor i a x (InGroup i) (s.actor i).group f.before f.free (good.groups i)))
          (λ j n. all_wait_frame g s.actor i a x (InGroup j) (s.actor j).group f.before f.free (good.groups j));
      txns = name_each (λ j (b : Actor). (z : Transaction) → b.txn ≡ Some z → TxnOk base g k j z) s.actor i a
          (λ z e. absurd (none_some z (sym f.after ∙ e)))
          (λ j n z e. other j z (good.txns j z e) (λ q. n (sym (good.txns j z e).who ∙ ap g.who q ∙ (good.txns i x f.before).who)));
      drawn = name_each (λ j (b : Actor). (z : Transaction) → b.txn ≡ Some z → (w : ℕ) → has_number w z.drawn ≡ true → Unused base g k j w (s.row w)) s.actor i a
          (λ z e w d. absurd (none_some z (sym f.after ∙ e)))
          (λ j n z e w d. let u = good.drawn j z e w d in record { drawer = u.drawer; above = u.above; below = u.below; fresh = u.fresh });
      undrawn = good.undrawn;
      held = name_each (λ j (b : Actor). (z : Transaction) → b.txn ≡ Some z → (w : ℕ) → holds z w ≡ true → (s.row w).owner ≡ Some z.tid) s.actor i a
          (λ z e w d. absurd (none_some z (sym f.after ∙ e)))
          (λ j n z e w d. good.held j z e w d);
      rows = λ w. row_ok (s.row w).owner w (good.rows w);
      active = λ t e has. runs t e (f.left t e has);
      learnt = name_each (λ j (b : Actor). LearntOk k b.learnt) s.actor i a (subst (LearntOk k) (sym f.learnt) (learnt_on (good.learnt i))) (λ j n. learnt_on (good.learnt j));
      short = name_each (λ j (b : Actor). length b.group ≤ 64) s.actor i a (rw f.group (good.short i)) (λ j n. good.short j);
      lawful = good.lawful;
    }
  where
    runs : (t e : ℕ) → (has_active t e s.clock.rows ≡ true) × (t ≢ x.tid) → IsActive g (set_name s.actor i a) t e
    runs t e has =
        let r = good.active t e has.0 in
        record {
          txn = r.txn;
          is = ap (λ (b : Actor). b.txn) (set_name_there s.actor i a (g.who t) (λ q. has.1 (sym r.tid ∙ ap (λ (z : Transaction). z.tid) (some_is r.txn x (sym r.is ∙ ap (λ j. (s.actor j).txn) q ∙ f.before))))) ∙ r.is;
          tid = r.tid;
          read = r.read;
        }

    learnt_on : {l : Learnt} → LearntOk s.clock l → LearntOk (clock_less s.clock rows pending visible) l
    learnt_on ok = record {
      visible = (let b = ok.visible in let c = f.up in omega arith);
      reads = λ t e has. ok.reads t e (f.left t e has).0;
      next = ok.next;
      tids = λ t e has. ok.tids t e (f.left t e has).0;
    }

    other : (j : Name) (z : Transaction) → TxnOk base g s.clock j z → z.tid ≢ x.tid → TxnOk base g (clock_less s.clock rows pending visible) j z
    other j z ok ne = record {
      who = ok.who;
      above = ok.above;
      below = ok.below;
      read_above = ok.read_above;
      read_below = (let b = ok.read_below in let c = f.up in omega arith);
      row = f.others z.tid z.read ne ok.row;
      touched = ok.touched;
      stage = ok.stage;
      record_is = ok.record_is;
      pending = λ e is. f.waiting z.tid e ne (ok.pending e is);
      later = ok.later;
      recorded = ok.recorded;
    }

    row_ok : (o : Option ℕ) (w : ℕ) → RowOkBy o base g s.clock.records s.actor w (s.row w) → RowOkBy o base g s.clock.records (set_name s.actor i a) w (s.row w)
    row_ok None w ok = ok
    row_ok (Some t) w ok = owned_move base g g s.clock.records s.actor (set_name s.actor i a) w (s.row w) t ok ok.txn refl
        (ap (λ (b : Actor). b.txn) (set_name_there s.actor i a (g.who t) (λ e. false≢true (sym (f.none w) ∙ ap (λ (z : Transaction). holds z w) (some_is x ok.txn (sym f.before ∙ ap (λ j. (s.actor j).txn) (sym e) ∙ ok.is)) ∙ ok.held))) ∙ ok.is)
        (same_txn w ok.txn)

pub done_keeps : (base : Base) (g : Ghost) (s : State) (i : Name) (x : Transaction) (a : Actor) → Good base g s → (s.actor i).txn ≡ Some x → a.txn ≡ None → a.group ≡ (s.actor i).group → a.learnt ≡ (s.actor i).learnt → (x.stage ≡ Queued → ⊥) → all_in x.touched x.settled ≡ true
    → Good base g (record s { clock = clock_less s.clock (without_active x.tid s.clock.rows) (without_active x.tid s.clock.pending) (visible_of s.clock.last (without_active x.tid s.clock.pending)); actor = set_name s.actor i a })
done_keeps base g s i x a good at after group learnt free all =
    let above = above_without s.clock.visible s.clock.last x.tid s.clock.pending good.pending in
    finish_keeps base g s i x a (without_active x.tid s.clock.rows) (without_active x.tid s.clock.pending) (visible_of s.clock.last (without_active x.tid s.clock.pending)) (record {
      before = at;
      after = after;
      group = group;
      learnt = learnt;
      left = λ t e. active_left x.tid t e s.clock.rows;
      free = free;
      none = let_go x all;
      up = visible_up s.clock.visible s.clock.last (without_active x.tid s.clock.pending) good.visible above;
      low = visible_low s.clock.last (without_active x.tid s.clock.pending);
      above = visible_above s.clock.visible s.clock.last (without_active x.tid s.clock.pending) above;
      others = λ t e ne. active_without x.tid t e s.clock.rows ne;
      waiting = λ t e ne. active_without x.tid t e s.clock.pending ne;
    }) good

pub end_keeps : (base : Base) (g : Ghost) (s : State) (i : Name) (x : Transaction) (a : Actor) → Good base g s → (s.actor i).txn ≡ Some x → a.txn ≡ None → a.group ≡ (s.actor i).group → a.learnt ≡ (s.actor i).learnt → (x.stage ≡ Queued → ⊥) → all_in x.touched x.settled ≡ true
    → Good base g (record s { clock = clock_less s.clock (without_active x.tid s.clock.rows) s.clock.pending s.clock.visible; actor = set_name s.actor i a })
end_keeps base g s i x a good at after group learnt free all =
    finish_keeps base g s i x a (without_active x.tid s.clock.rows) s.clock.pending s.clock.visible (record {
      before = at;
      after = after;
      group = group;
      learnt = learnt;
      left = λ t e. active_left x.tid t e s.clock.rows;
      free = free;
      none = let_go x all;
      up = omega arith;
      low = good.visible;
      above = good.pending;
      others = λ t e ne. active_without x.tid t e s.clock.rows ne;
      waiting = λ t e ne has. has;
    }) good
