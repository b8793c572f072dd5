-- A transaction takes a vertex and changes it: the facts are kept.
use Rattle.std.proofs.Common.{◌≡◌, ◌≢◌, ℕ, suc, ◌<◌, ◌≤◌, Bool, true, false, ◌&&◌, not, List, [], ◌∷◌, ◌++◌, length, refl, sym, ap, ◌∙◌, subst, arith, Option, Some, None, ⊎_elim, ◌⊎◌, inl, inr, append-nil}
use Rattle.std.proofs.lemmas.Bool.{cases_eq, eq-eqb, eqb-true, ne_eqb, and_parts, false≢true, true≢false, leb-true, cases_lt}
use Rattle.std.proofs.lemmas.Bool.Decides.{nat_tests}
use Rattle.std.specs.Prelude.{if◌then◌else◌, ◌==◌, nat_le}
use Rattle.graph_model.specs.Change.{vertex_of}
use Rattle.graph_model.specs.Places.{changes_about}
use Rattle.graph_model.specs.declared.change.Change.{Change}
use Rattle.graph_model.specs.declared.change.Change.TheVariants.{New, Set, Drop, Put, Del}
use Rattle.graph_model.specs.declared.graph.Base.{Base}
use Rattle.graph_model.specs.declared.record.Record.{Record}
use Rattle.stamps.specs.Stamps.{Txn}
use Rattle.vertex_locks.specs.declared.answer.Look.TheVariants.{Taken, Held, Conflict}
use Rattle.core_rows.specs.Rows.{Row, fresh_row, newest, is_there, lock_answer, taken_row}
use Rattle.vertex_locks.specs.Rows.{answer_by_owner}
use Rattle.core_states.proofs.Names.{set_name_here, some_is}
use Rattle.core_kept.specs.Good.{root, past_of, part_of, Place, Nowhere, InLog, Ghost, RowOkBy, published, StageOk, TxnOk, Good}
use Rattle.row_pasts.specs.Lives.{fits, Past, stamped}
use Rattle.core_states.specs.Names.{Name, set_name}
use Rattle.core_states.specs.Numbers.{has_number, without_number, touch}
use Rattle.core_states.specs.RowEvents.{changed_row, by_refusal}
use Rattle.row_pasts.specs.RowFits.{Rooted, RowFits}
use Rattle.core_states.specs.States.{State, after_row}
use Rattle.core_states.specs.Transactions.{is_open, is_working, touching, changing, with_txn}
use Rattle.core_states.specs.declared.actor.Actor.{Actor}
use Rattle.core_states.specs.declared.clock.Clock.{Clock}
use Rattle.core_states.specs.declared.event.CoreAnswer.{CoreAnswer}
use Rattle.core_states.specs.declared.transaction.Stage.{Stage}
use Rattle.core_states.specs.declared.transaction.Stage.TheVariants.{Open, Queued, Decided}
use Rattle.core_states.specs.declared.transaction.Transaction.{Transaction}
use Rattle.row_pasts.proofs.RowSteps.{as_taken, as_free, row_taken, row_put, row_del, row_push}
use Rattle.core_kept.proofs.Frames.{Same, Local, local_keeps}

pub both_nil : (xs ys : List Past) → xs ++ ys ≡ [] → (xs ≡ []) × (ys ≡ [])
both_nil [] ys e = (refl, e)
both_nil (x ∷ xs) ys e = absurd (cc)

skip_step : (b : Bool) (now part rest others : List Past) → (if b then now ++ part else part) ≡ [] → (part ≡ [] → rest ≡ others) → now ++ rest ≡ (if b then others else now ++ others)
skip_step true now part rest others none ih = let nil = both_nil now part none in rw nil.0 (ih nil.1)
skip_step false now part rest others none ih = ap (λ l. now ++ l) (ih none)

-- Without a record of its own all of the past is the others'.
pub past_skip : (rs : List Record) (v t : ℕ) → part_of rs v t ≡ [] → past_of rs v None ≡ past_of rs v (Some t)
past_skip [] v t none = refl
past_skip (r ∷ rs) v t none = skip_step (r.tid == t) (stamped r.epoch (changes_about v r.changes)) (part_of rs v t) (past_of rs v None) (past_of rs v (Some t)) none (past_skip rs v t)

pub on-append : (v : ℕ) (cs ds : List Change) → changes_about v (cs ++ ds) ≡ changes_about v cs ++ changes_about v ds
on-append v [] ds = refl
on-append v (c ∷ cs) ds = grind (arith, on-append v cs ds)

-- a transaction that works
pub record Works (x : Transaction) : Type 0 where
  pub stage : x.stage ≡ Open
  pub settled : x.settled ≡ []

open_is : (s : Stage) → is_open s ≡ true → s ≡ Open
open_is Open e = refl
open_is Queued e = absurd (false≢true e)
open_is (Decided o) e = absurd (false≢true e)

none_settled : (xs : List ℕ) → (length xs == 0) ≡ true → xs ≡ []
none_settled [] e = refl
none_settled (x ∷ xs) e = absurd (omega (arith, eqb-true (suc (length xs)) 0 e))

pub works : (x : Transaction) → is_working x ≡ true → Works x
works x e = let p = and_parts (is_open x.stage) (length x.settled == 0) e in record { stage = open_is x.stage p.0; settled = none_settled x.settled p.1 }

-- The lock was taken.
pub record Takes (base : Base) (g : Ghost) (s : State) (v : ℕ) (x : Transaction) : Type 0 where
  pub read : (s.row v).committed ≤ x.read
  pub last : past_of s.clock.records v None ≡ past_of s.clock.records v (Some x.tid) ++ part_of s.clock.records v x.tid
  pub fits : RowFits base.epoch (root base v) (past_of s.clock.records v (Some x.tid)) (changes_about v x.own) (taken_row x.tid (s.row v))
  pub mine : (t : ℕ) → (s.row v).owner ≡ Some t → t ≡ x.tid

pub published_nowhere : (place : Place) (cs : List Change) → place ≡ Nowhere → published place cs ≡ []
published_nowhere place cs e = rw e refl

none_some : (t : ℕ) → None ≡ Some t → ⊥
none_some t e = (cc)

-- a working transaction has no change of a vertex that nobody owns
pub own_free : (base : Base) (g : Ghost) (s : State) (i : Name) (v : ℕ) (x : Transaction) → Good base g s → (s.actor i).txn ≡ Some x → Works x → (s.row v).owner ≡ None → changes_about v x.own ≡ []
own_free base g s i v x good at w free = (good.txns i x at).touched v (by_touch (has_number v x.touched) refl)
  where
    by_touch : (b : Bool) → has_number v x.touched ≡ b → has_number v x.touched ≡ false
    by_touch false e = e
    by_touch true e = absurd (none_some x.tid (sym free ∙ good.held i x at v (rw (e, w.settled) refl)))

takes_free : (base : Base) (g : Ghost) (s : State) (i : Name) (v : ℕ) (x : Transaction) → Good base g s → (s.actor i).txn ≡ Some x → Works x
    → (s.row v).owner ≡ None → nat_le (s.row v).committed x.read ≡ true → RowOkBy None base g s.clock.records s.actor v (s.row v) → Takes base g s v x
takes_free base g s i v x good at w free low ok =
    let ok' = good.txns i x at in
    let nowhere : g.place x.tid ≡ Nowhere = subst (λ (y : Stage). StageOk y x.settled (g.place x.tid)) w.stage ok'.stage in
    let nothing : part_of s.clock.records v x.tid ≡ [] = ok'.record_is v ∙ published_nowhere (g.place x.tid) (changes_about v x.own) nowhere in
    let own : changes_about v x.own ≡ [] = own_free base g s i v x good at w free in
    record {
      read = leb-true (s.row v).committed x.read low;
      last = past_skip s.clock.records v x.tid nothing ∙ sym (rw nothing (append-nil (past_of s.clock.records v (Some x.tid))));
      fits = rw own (rw (← past_skip s.clock.records v x.tid nothing) (row_taken base.epoch (root base v) (past_of s.clock.records v None) x.tid (s.row v) (subst (RowFits base.epoch (root base v) (past_of s.clock.records v None) []) (as_free (s.row v) free) ok)));
      mine = λ t e. absurd (none_some t (sym free ∙ e));
    }

takes_own : (base : Base) (g : Ghost) (s : State) (i : Name) (v u : ℕ) (x : Transaction) → Good base g s → (s.actor i).txn ≡ Some x
    → (s.row v).owner ≡ Some u → u ≡ x.tid → RowOkBy (Some u) base g s.clock.records s.actor v (s.row v) → Takes base g s v x
takes_own base g s i v u x good at owner same ok =
    let who : g.who u ≡ i = ap g.who same ∙ (good.txns i x at).who in
    let is : ok.txn ≡ x = some_is ok.txn x (sym ok.is ∙ ap (λ j. (s.actor j).txn) who ∙ at) in
    record {
      read = rw (← is) ok.read;
      last = rw (← same) ok.last;
      fits = rw (← same) (subst (λ (y : Transaction). RowFits base.epoch (root base v) (past_of s.clock.records v (Some u)) (changes_about v y.own) (taken_row u (s.row v))) is (subst (RowFits base.epoch (root base v) (past_of s.clock.records v (Some u)) (changes_about v ok.txn.own)) (as_taken u (s.row v) owner) ok.fits));
      mine = λ t e. sym (some_is u t (sym owner ∙ e)) ∙ same;
    }

free_low : (b : Bool) (c : ℕ) → (if b then Taken else Conflict c) ≡ Taken → b ≡ true
free_low true c e = refl
free_low false c e = absurd (cc)

same_owner : (b : Bool) (u : ℕ) → (if b then Taken else Held u) ≡ Taken → b ≡ true
same_owner true u e = refl
same_owner false u e = absurd (cc)

takes_by : (o : Option ℕ) (base : Base) (g : Ghost) (s : State) (i : Name) (v : ℕ) (x : Transaction) → Good base g s → (s.actor i).txn ≡ Some x → Works x
    → (s.row v).owner ≡ o → answer_by_owner o (s.row v).committed x.tid x.read ≡ Taken → RowOkBy o base g s.clock.records s.actor v (s.row v) → Takes base g s v x
takes_by None base g s i v x good at w owner answer ok = takes_free base g s i v x good at w owner (free_low (nat_le (s.row v).committed x.read) (s.row v).committed answer) ok
takes_by (Some u) base g s i v x good at w owner answer ok = takes_own base g s i v u x good at owner (eqb-true u x.tid (same_owner (u == x.tid) u answer)) ok

pub takes : (base : Base) (g : Ghost) (s : State) (i : Name) (v : ℕ) (x : Transaction) → Good base g s → (s.actor i).txn ≡ Some x → Works x
    → lock_answer (s.row v) x.tid x.read ≡ Taken → Takes base g s v x
takes base g s i v x good at w answer = takes_by (s.row v).owner base g s i v x good at w refl answer (good.rows v)

-- Lists of numbers.
pub touched_here : (v : ℕ) (xs : List ℕ) → has_number v (touch v xs) ≡ true
touched_here v xs = grind (arith, nat_tests)

pub touched_there : (v w : ℕ) (xs : List ℕ) → w ≢ v → has_number w (touch v xs) ≡ has_number w xs
touched_there v w xs n = grind (arith, nat_tests)

without_some : (v w : ℕ) (xs : List ℕ) → has_number w (without_number v xs) ≡ true → has_number w xs ≡ true
without_some v w [] e = e
without_some v w (x ∷ xs) e = grind (arith, nat_tests, without_some v w xs)

without_it : (v : ℕ) (xs : List ℕ) → has_number v (without_number v xs) ≡ false
without_it v [] = refl
without_it v (x ∷ xs) = grind (arith, nat_tests, without_it v xs)

pub without_there : (v w : ℕ) (xs : List ℕ) → has_number w (without_number v xs) ≡ true → (has_number w xs ≡ true) × (w ≢ v)
without_there v w xs e = (without_some v w xs e, λ same. false≢true (sym (without_it v xs) ∙ ap (λ u. has_number u (without_number v xs)) (sym same) ∙ e))

-- a change at v changes nothing elsewhere
pub on_there : (c : Change) (w : ℕ) (cs : List Change) → w ≢ vertex_of c → changes_about w (cs ++ c ∷ []) ≡ changes_about w cs
on_there c w cs n = rw on-append (rw (ne_eqb (vertex_of c) w (λ e. n (sym e))) (append-nil (changes_about w cs)))

pub on_here : (c : Change) (cs : List Change) → changes_about (vertex_of c) (cs ++ c ∷ []) ≡ changes_about (vertex_of c) cs ++ c ∷ []
on_here c cs = rw on-append (rw (eq-eqb (vertex_of c) (vertex_of c) refl) refl)

-- the vertex is no fresh one
not_fresh : (row : Row) (e t : ℕ) → is_there (newest row.versions e (Txn t)) ≡ true → row ≡ fresh_row → ⊥
not_fresh row e t there fresh = false≢true (sym (ap (λ (r : Row). is_there (newest r.versions e (Txn t))) fresh) ∙ there)

pub below_next : (base : Base) (g : Ghost) (s : State) (v : ℕ) → Good base g s → (s.row v ≡ fresh_row → ⊥) → v < s.clock.next_vertex
below_next base g s v good used = ⊎_elim (λ (lt : v < s.clock.next_vertex). lt) (λ (le : s.clock.next_vertex ≤ v). absurd (used (good.undrawn v le))) (cases_lt v s.clock.next_vertex)

-- the transaction with another touched vertex, and perhaps another change of it, is still sound
touch_ok : (base : Base) (g : Ghost) (k : Clock) (i : Name) (v : ℕ) (x : Transaction) → Works x → TxnOk base g k i x → TxnOk base g k i (touching x v)
touch_ok base g k i v x w ok = record {
  who = ok.who;
  above = ok.above;
  below = ok.below;
  read_above = ok.read_above;
  read_below = ok.read_below;
  row = ok.row;
  touched = λ u e. ok.touched u (untouched u e);
  stage = ok.stage;
  record_is = ok.record_is;
  pending = ok.pending;
  later = ok.later;
  recorded = ok.recorded;
}
  where
    untouched : (u : ℕ) → has_number u (touch v x.touched) ≡ false → has_number u x.touched ≡ false
    untouched u e = ⊎_elim
        (λ (same : u ≡ v). absurd (false≢true (sym e ∙ ap (λ z. has_number z (touch v x.touched)) same ∙ touched_here v x.touched)))
        (λ (n : u ≢ v). sym (touched_there v u x.touched n) ∙ e)
        (cases_eq u v)

pub change_ok : (base : Base) (g : Ghost) (k : Clock) (i : Name) (c : Change) (x : Transaction) → Works x → TxnOk base g k i x → TxnOk base g k i (changing x c)
change_ok base g k i c x w ok =
    let nowhere : g.place x.tid ≡ Nowhere = subst (λ (y : Stage). StageOk y x.settled (g.place x.tid)) w.stage ok.stage in
    record {
      who = ok.who;
      above = ok.above;
      below = ok.below;
      read_above = ok.read_above;
      read_below = ok.read_below;
      row = ok.row;
      touched = λ u e. untouched u e (cases_eq u (vertex_of c));
      stage = ok.stage;
      record_is = λ u. ok.record_is u ∙ published_nowhere (g.place x.tid) (changes_about u x.own) nowhere ∙ sym (published_nowhere (g.place x.tid) (changes_about u (x.own ++ c ∷ [])) nowhere);
      pending = ok.pending;
      later = ok.later;
      recorded = λ e is. absurd (nowhere_log e (sym nowhere ∙ is));
    }
  where
    nowhere_log : (e : ℕ) → Nowhere ≡ InLog e → ⊥
    nowhere_log e q = (cc)

    untouched : (u : ℕ) → has_number u (touch (vertex_of c) x.touched) ≡ false → (u ≡ vertex_of c) ⊎ (u ≢ vertex_of c) → changes_about u (x.own ++ c ∷ []) ≡ []
    untouched u e (inl same) = absurd (false≢true (sym e ∙ ap (λ z. has_number z (touch (vertex_of c) x.touched)) same ∙ touched_here (vertex_of c) x.touched))
    untouched u e (inr n) = on_there c u x.own n ∙ ok.touched u (sym (touched_there (vertex_of c) u x.touched n) ∙ e)

pub open_free : (x : Transaction) → Works x → x.stage ≡ Queued → ⊥
open_free x w e = open_queued (sym w.stage ∙ e)
  where
    open_queued : Open ≡ Queued → ⊥
    open_queued e = (cc)

touch_same : (v : ℕ) (x : Transaction) (w : ℕ) → w ≢ v → Same w x (touching x v)
touch_same v x w n = record { tid = refl; read = refl; held = ap (λ b. b && not (has_number w x.settled)) (touched_there v w x.touched n); own = refl }

pub change_same : (c : Change) (x : Transaction) (w : ℕ) → w ≢ vertex_of c → Same w x (changing x c)
change_same c x w n = record { tid = refl; read = refl; held = ap (λ b. b && not (has_number w x.settled)) (touched_there (vertex_of c) w x.touched n); own = on_there c w x.own n }

pub holds_here : (v : ℕ) (x : Transaction) → Works x → (has_number v (touch v x.touched) && not (has_number v x.settled)) ≡ true
holds_here v x w = rw w.settled (rw touched_here refl)

-- The lock was taken and the change refused.
pub touch_local : (base : Base) (g : Ghost) (s : State) (i : Name) (v : ℕ) (x : Transaction) → Good base g s → (s.actor i).txn ≡ Some x → Works x → (s.row v ≡ fresh_row → ⊥) → Takes base g s v x
    → Local base g s i v x (touching x v) (with_txn (s.actor i) (Some (touching x v))) (taken_row x.tid (s.row v))
touch_local base g s i v x good at w used t = record {
  before = at;
  after = refl;
  group = refl;
  learnt = refl;
  tid = refl;
  read = refl;
  free = open_free x w;
  same = touch_same v x;
  txn = touch_ok base g s.clock i v x w (good.txns i x at);
  drawn = λ u h. (h, λ e. used (subst (λ z. s.row z ≡ fresh_row) e (good.drawn i x at u h).fresh));
  used = λ e. absurd (used e);
  below = below_next base g s v good used;
  mine = t.mine;
  held = λ h. refl;
  row_ok = record {
    txn = touching x v;
    is = ap (λ (b : Actor). b.txn) (set_name_here s.actor i (with_txn (s.actor i) (Some (touching x v))) (g.who x.tid) (good.txns i x at).who);
    tid = refl;
    held = holds_here v x w;
    read = t.read;
    last = t.last;
    fits = t.fits;
  };
}

-- The change was made.
pub change_local : (base : Base) (g : Ghost) (s : State) (i : Name) (c : Change) (x : Transaction) (row : Row) → Good base g s → (s.actor i).txn ≡ Some x → Works x → (s.row (vertex_of c) ≡ fresh_row → has_number (vertex_of c) x.drawn ≡ true) → vertex_of c < s.clock.next_vertex → Takes base g s (vertex_of c) x
    → row.owner ≡ Some x.tid → row.committed ≡ (s.row (vertex_of c)).committed
    → RowFits base.epoch (root base (vertex_of c)) (past_of s.clock.records (vertex_of c) (Some x.tid)) (changes_about (vertex_of c) x.own ++ c ∷ []) row
    → Local base g s i (vertex_of c) x (changing x c) (with_txn (s.actor i) (Some (changing x c))) row
change_local base g s i c x row good at w used below t owner committed fits = record {
  before = at;
  after = refl;
  group = refl;
  learnt = refl;
  tid = refl;
  read = refl;
  free = open_free x w;
  same = change_same c x;
  txn = change_ok base g s.clock i c x w (good.txns i x at);
  drawn = λ u h. without_there (vertex_of c) u x.drawn h;
  used = used;
  below = below;
  mine = t.mine;
  held = λ h. owner;
  row_ok = subst (λ (o : Option ℕ). RowOkBy o base g s.clock.records (set_name s.actor i (with_txn (s.actor i) (Some (changing x c)))) (vertex_of c) row) (sym owner) (record {
    txn = changing x c;
    is = ap (λ (b : Actor). b.txn) (set_name_here s.actor i (with_txn (s.actor i) (Some (changing x c))) (g.who x.tid) (good.txns i x at).who);
    tid = refl;
    held = holds_here (vertex_of c) x w;
    read = rw committed t.read;
    last = t.last;
    fits = subst (λ (cs : List Change). RowFits base.epoch (root base (vertex_of c)) (past_of s.clock.records (vertex_of c) (Some x.tid)) cs row) (sym (on_here c x.own)) fits;
  });
}

-- the change makes its vertex
abbrev pub is_new : Change → Bool
is_new (New v p) = true
is_new (Set v p) = false
is_new (Drop v) = false
is_new (Put v l d p) = false
is_new (Del v l d) = false

-- Each of put, del, set and drop leaves a row that fits.
changed_fits : (f : ℕ) (base : Rooted) (past : List Past) (own : List Change) (c : Change) (x : Transaction) (row : Row) → is_new c ≡ false → row.committed ≤ x.read
    → is_there (newest row.versions x.read (Txn x.tid)) ≡ true → RowFits f base past own (taken_row x.tid row) → RowFits f base past (own ++ c ∷ []) (changed_row x c row)
changed_fits f base past own (New v p) x row old low there fit = absurd (true≢false old)
changed_fits f base past own (Set v p) x row old low there fit = row_push f base past x.tid x.read own (Set v p) (Some p) row low (λ _. refl) (λ _ _. refl) (λ _. refl) there fit
changed_fits f base past own (Drop v) x row old low there fit = row_push f base past x.tid x.read own (Drop v) None row low (λ _. refl) (λ _ _. refl) (λ _. refl) there fit
changed_fits f base past own (Put v l d p) x row old low there fit = row_put f base past x.tid x.read own v l d p row low there fit
changed_fits f base past own (Del v l d) x row old low there fit = row_del f base past x.tid x.read own v l d row low there fit

changed_owner : (x : Transaction) (c : Change) (row : Row) → (changed_row x c row).owner ≡ Some x.tid
changed_owner x (New v p) row = refl
changed_owner x (Set v p) row = refl
changed_owner x (Drop v) row = refl
changed_owner x (Put v l d p) row = refl
changed_owner x (Del v l d) row = refl

changed_committed : (x : Transaction) (c : Change) (row : Row) → (changed_row x c row).committed ≡ row.committed
changed_committed x (New v p) row = refl
changed_committed x (Set v p) row = refl
changed_committed x (Drop v) row = refl
changed_committed x (Put v l d p) row = refl
changed_committed x (Del v l d) row = refl

-- put, del, set and drop, once the lock is taken
pub changes_taken : (base : Base) (g : Ghost) (s : State) (i : Name) (c : Change) (x : Transaction) → Good base g s → (s.actor i).txn ≡ Some x → is_new c ≡ false → is_working x ≡ true
    → is_there (newest (s.row (vertex_of c)).versions x.read (Txn x.tid)) ≡ true → lock_answer (s.row (vertex_of c)) x.tid x.read ≡ Taken
    → (refused : Option CoreAnswer) → Good base g (after_row s i (vertex_of c) (by_refusal refused x c (s.row (vertex_of c)) (s.actor i)))
changes_taken base g s i c x good at old working there answer (Some reply) =
    let v = vertex_of c in let w = works x working in
    local_keeps base g s i v x (touching x v) (with_txn (s.actor i) (Some (touching x v))) (taken_row x.tid (s.row v))
    (touch_local base g s i v x good at w (not_fresh (s.row v) x.read x.tid there) (takes base g s i v x good at w answer)) good
changes_taken base g s i c x good at old working there answer None =
    let v = vertex_of c in let w = works x working in let t = takes base g s i v x good at w answer in
    local_keeps base g s i v x (changing x c) (with_txn (s.actor i) (Some (changing x c))) (changed_row x c (s.row v))
    (change_local base g s i c x (changed_row x c (s.row v)) good at w (λ e. absurd (not_fresh (s.row v) x.read x.tid there e)) (below_next base g s v good (not_fresh (s.row v) x.read x.tid there)) t (changed_owner x c (s.row v)) (changed_committed x c (s.row v))
    (changed_fits base.epoch (root base v) (past_of s.clock.records v (Some x.tid)) (changes_about v x.own) c x (s.row v) old t.read there t.fits)) good
