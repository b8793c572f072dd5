-- What a look tells: of the records, of the owner, and of the other transactions.
use Rattle.std.proofs.Common.{◌≡◌, ◌≢◌, ℕ, ◌<◌, ◌≤◌, Bool, true, false, ◌&&◌, not, List, [], ◌∷◌, length, refl, sym, ap, ◌∙◌, subst, arith, Option, Some, None, ⊎_elim, ◌⊎◌, inl, inr}
use Rattle.std.proofs.lemmas.Bool.{eq-eqb, eqb-true, and_parts, and_from, leb-true, leb-false, false≢true, false_from_ne_true}
use Rattle.std.specs.Prelude.{if◌then◌else◌, ◌==◌, nat_le}
use Rattle.graph_model.specs.declared.graph.Base.{Base}
use Rattle.graph_model.specs.declared.record.Record.{Record}
use Rattle.graph_model.specs.Places.{changes_about}
use Rattle.vertex_locks.specs.declared.answer.Look.TheVariants.{Taken, Held, Conflict}
use Rattle.core_rows.specs.Rows.{lock_answer}
use Rattle.vertex_locks.specs.Rows.{answer_by_owner}
use Rattle.core_states.specs.declared.transaction.Transaction.{Transaction}
use Rattle.core_states.specs.declared.transaction.Receipt.{Receipt}
use Rattle.core_states.specs.declared.transaction.Stage.{Stage}
use Rattle.core_states.specs.declared.transaction.Stage.TheVariants.{Open, Queued, Decided}
use Rattle.core_states.specs.Names.{Name}
use Rattle.core_states.specs.Numbers.{has_number}
use Rattle.core_states.specs.Transactions.{is_open, is_working, holds}
use Rattle.row_pasts.specs.RowFits.{RowFits}
use Rattle.core_states.specs.States.{State}
use Rattle.core_kept.specs.Good.{Ghost, Place, Nowhere, InLog, Good, In, RowOkBy, StageOk, past_of, root}
use Rattle.core_kept.specs.Tellings.{Told}
use Rattle.core_states.specs.RowEvents.{Limits}
use Rattle.core_kept.specs.Bounds.{Kept}
use Rattle.core_states.specs.Looks.{LooksTell}
use Rattle.core_kept.proofs.Beginning.{none_some}
use Rattle.core_states.specs.Sound.{InReceipts}
use Rattle.core_laws.proofs.Continuing.{changes_some}
use Rattle.core_states.proofs.Names.{some_is}
use Rattle.core_laws.proofs.Owners.{owner_of, owns}
use Rattle.core_laws.proofs.Sounds.{past_until}
use Rattle.core_laws.proofs.Closings.{record_facts, receipt_ok}
use Rattle.core_kept.proofs.RowTellings.{held_found, look_found}
use Rattle.core_laws.proofs.Sounds.{was_held, was_changed}

-- ---- the lock's answers

some_of : (a b : ℕ) → Some a ≡ Some b → a ≡ b
some_of a b e = (cc)

held_is : (o : Option ℕ) (c t r u : ℕ) → answer_by_owner o c t r ≡ Held u → (o ≡ Some u) × (u ≢ t)
held_is None c t r u e = by_test (nat_le c r) e
  where
    by_test : (b : Bool) → (if b then Taken else Conflict c) ≡ Held u → (None ≡ Some u) × (u ≢ t)
    by_test true f = absurd (cc)
    by_test false f = absurd (cc)
held_is (Some w) c t r u e = by_test (w == t) refl e
  where
    same : Held w ≡ Held u → w ≡ u
    same f = (cc)

    by_test : (b : Bool) → (w == t) ≡ b → (if b then Taken else Held w) ≡ Held u → (Some w ≡ Some u) × (u ≢ t)
    by_test true g f = absurd (cc)
    by_test false g f = (ap Some (same f), λ n. false≢true (sym g ∙ eq-eqb w t (same f ∙ n)))

conflict_is : (o : Option ℕ) (c t r e : ℕ) → answer_by_owner o c t r ≡ Conflict e → (o ≡ None) × (c ≡ e) × (r < e)
conflict_is None c t r e f = by_test (nat_le c r) refl f
  where
    same : Conflict c ≡ Conflict e → c ≡ e
    same g = (cc)

    by_test : (b : Bool) → nat_le c r ≡ b → (if b then Taken else Conflict c) ≡ Conflict e → (◌≡◌ {A = Option ℕ} None None) × (c ≡ e) × (r < e)
    by_test true g h = absurd (cc)
    by_test false g h = let q = same h in let l = leb-false c r g in (refl, q, omega (arith, q, l))
conflict_is (Some w) c t r e f = by_test (w == t) f
  where
    by_test : (b : Bool) → (if b then Taken else Held w) ≡ Conflict e → (Some w ≡ None) × (c ≡ e) × (r < e)
    by_test true g = absurd (cc)
    by_test false g = absurd (cc)

pub taken_is : (o : Option ℕ) (c t r : ℕ) → answer_by_owner o c t r ≡ Taken → ((o ≡ None) × (c ≤ r)) ⊎ (o ≡ Some t)
taken_is None c t r f = by_test (nat_le c r) refl f
  where
    by_test : (b : Bool) → nat_le c r ≡ b → (if b then Taken else Conflict c) ≡ Taken → ((◌≡◌ {A = Option ℕ} None None) × (c ≤ r)) ⊎ (None ≡ Some t)
    by_test true g h = inl (refl, leb-true c r g)
    by_test false g h = absurd (cc)
taken_is (Some w) c t r f = by_test (w == t) refl f
  where
    by_test : (b : Bool) → (w == t) ≡ b → (if b then Taken else Held w) ≡ Taken → ((Some w ≡ None) × (c ≤ r)) ⊎ (Some w ≡ Some t)
    by_test true g h = inr (ap Some (eqb-true w t g))
    by_test false g h = absurd (cc)

-- ---- the records that changed the vertex

free_past : (base : Base) (g : Ghost) (s : State) (v : ℕ) (r : Record) → Good base g s → (s.row v).owner ≡ None → In r s.clock.records → changes_about v r.changes ≢ [] → r.epoch ≤ (s.row v).committed
free_past base g s v r good free m c =
    let ok : RowFits base.epoch (root base v) (past_of s.clock.records v None) [] (s.row v) = subst (λ (o : Option ℕ). RowOkBy o base g s.clock.records s.actor v (s.row v)) free (good.rows v) in
    past_until (s.row v).committed v None r s.clock.records ok.past_low m refl c

open_nowhere : (b : Stage) (settled : List ℕ) (p : Place) → is_open b ≡ true → StageOk b settled p → p ≡ Nowhere
open_nowhere Open settled p e ok = ok
open_nowhere Queued settled p e ok = absurd (false≢true e)
open_nowhere (Decided o) settled p e ok = absurd (false≢true e)

-- A look that takes the lock: no record changed the vertex after the snapshot.
pub taken_current : (base : Base) (g : Ghost) (s : State) (i : Name) (v : ℕ) (x : Transaction) (r : Record) → Good base g s → (s.actor i).txn ≡ Some x → is_working x ≡ true →
    lock_answer (s.row v) x.tid x.read ≡ Taken → In r s.clock.records → changes_about v r.changes ≢ [] → r.epoch ≤ x.read
taken_current base g s i v x r good at w look m c = ⊎_elim
    (λ (free : ((s.row v).owner ≡ None) × ((s.row v).committed ≤ x.read)). let a = free_past base g s v r good free.0 m c in let b = free.1 in omega (arith, a, b))
    (λ (mine : (s.row v).owner ≡ Some x.tid).
    let ok = owner_of base g s v x.tid good mine in
    let theirs = good.txns i x at in
    let nowhere = open_nowhere x.stage x.settled (g.place x.tid) (and_parts (is_open x.stage) (length x.settled == 0) w).0 theirs.stage in
    let logged = (record_facts base g s.clock.next_tid r s.clock.records good.records m).0 in
    let other : (r.tid == x.tid) ≡ false = false_from_ne_true (r.tid == x.tid) (λ e. clash r.epoch (sym nowhere ∙ ap g.place (sym (eqb-true r.tid x.tid e)) ∙ logged)) in
    let same : ok.txn ≡ x = some_is ok.txn x (sym ok.is ∙ ap (λ j. (s.actor j).txn) theirs.who ∙ at) in
    let read = ap (λ (y : Transaction). y.read) same in
    let a = past_until (s.row v).committed v (Some x.tid) r s.clock.records ok.fits.past_low m other c in
    let b = ok.read in
    omega (arith, a, b, read))
    (taken_is (s.row v).owner (s.row v).committed x.tid x.read look)
  where
    clash : (e : ℕ) → Nowhere ≡ InLog e → ⊥
    clash e q = (cc)

quiet_holds : (y : Transaction) (v : ℕ) → is_working y ≡ true → has_number v y.touched ≡ true → holds y v ≡ true
quiet_holds y v w h = by_settled y.settled (eqb-true (length y.settled) 0 (and_parts (is_open y.stage) (length y.settled == 0) w).1)
  where
    by_settled : (xs : List ℕ) → length xs ≡ 0 → (has_number v y.touched && not (has_number v xs)) ≡ true
    by_settled [] e = and_from _ _ h refl
    by_settled (z ∷ xs) e = absurd (omega (arith, e))

-- None of the pass's other working transactions touched the vertex, where a look finds no other owner.
pub untouched : (base : Base) (g : Ghost) (s : State) (i j : Name) (v : ℕ) (x y : Transaction) → Good base g s → (s.actor i).txn ≡ Some x → (s.actor j).txn ≡ Some y → j ≢ i → is_working y ≡ true →
    ((u : ℕ) → (s.row v).owner ≡ Some u → u ≡ x.tid) → has_number v y.touched ≡ false
untouched base g s i j v x y good at there other w none = false_from_ne_true (has_number v y.touched) (λ h.
    let same = none y.tid (good.held j y there v (quiet_holds y v w h)) in
    other (sym (good.txns j y there).who ∙ ap g.who same ∙ (good.txns i x at).who))

-- A look that finds an owner: it runs, and its number was drawn; where it is of the pass, it touched the vertex.
pub held_runs : (base : Base) (g : Ghost) (s : State) (v t u read : ℕ) → Good base g s → Told g s → lock_answer (s.row v) t read ≡ Held u →
    (u ≢ t) × (u < s.clock.next_tid) × ((j : Name) (r : Receipt) → InReceipts r (s.actor j).receipts → r.tid ≢ u) × ((j : Name) (y : Transaction) → (s.actor j).txn ≡ Some y → y.tid ≡ u → has_number v y.touched ≡ true)
held_runs base g s v t u read good told look =
    let is = held_is (s.row v).owner (s.row v).committed t read u look in
    let ok = owner_of base g s v u good is.0 in
    let theirs = good.txns (g.who u) ok.txn ok.is in
    let below = theirs.below in
    let tid = ok.tid in (
      is.1,
      omega (arith, below, tid),
      λ j r m e. (receipt_ok g s r (s.actor j).receipts (told j).0 m).idle (g.who u) ok.txn ok.is (ok.tid ∙ sym e),
      λ j y at e. (and_parts (has_number v y.touched) (not (has_number v y.settled)) (owns base g s j v y good at (is.0 ∙ ap Some (sym e)))).0,
    )

-- A look that finds a conflict: the vertex is free, and no record that changed it is later.
pub conflict_newest : (base : Base) (g : Ghost) (s : State) (v t e read : ℕ) (r : Record) → Good base g s → lock_answer (s.row v) t read ≡ Conflict e → In r s.clock.records → changes_about v r.changes ≢ [] → (read < e) × (r.epoch ≤ e)
conflict_newest base g s v t e read r good look m c =
    let is = conflict_is (s.row v).owner (s.row v).committed t read e look in
    let a = free_past base g s v r good is.0 m c in
    let same = is.1 in
    (is.2, omega (arith, a, same))

-- What a look tells in a kept state.
pub looks_tell : (base : Base) (most : Limits) (s : State) → Kept base most s → LooksTell s
looks_tell base most s kept = record {
  taken = λ i x v runs working look. record {
    current = λ r m changed. taken_current base g s i v x r good runs working look m (changes_some v r.changes changed);
    alone = λ j y there other works. untouched base g s i j v x y good runs there other works (λ u owner. owner_is i x v u look owner);
  };
  held = λ i x v u runs look.
      let is = held_is (s.row v).owner (s.row v).committed x.tid x.read u look in
      let ok = owner_of base g s v u good is.0 in
      record {
        other = is.1;
        run = record { actor = g.who u; txn = ok.txn; runs = ok.is; number = ok.tid };
        later = (was_held base g s v u x.read good (held_found base g s i v u x good runs is.0)).later;
        touched = (and_parts (has_number v ok.txn.touched) (not (has_number v ok.txn.settled)) ok.held).0;
        no_receipt = (held_runs base g s v x.tid u x.read good kept.0.2 look).2;
      };
  conflict = λ i x v e runs look.
      let is = conflict_is (s.row v).owner (s.row v).committed x.tid x.read e look in
      record {
        late = is.2;
        changed = was_changed s v e (look_found (s.row v).owner (Conflict e) base g s i v x good runs refl look);
        newest = λ r m changed. (conflict_newest base g s v x.tid e x.read r good look m (changes_some v r.changes changed)).1;
        free = λ j y there works. false_from_ne_true (has_number v y.touched) (λ h. none_some y.tid (sym is.0 ∙ good.held j y there v (quiet_holds y v works h)));
      };
}
  where
    g : Ghost
    g = kept.0.0

    good : Good base g s
    good = kept.0.1

    owner_is : (i : Name) (x : Transaction) (v u : ℕ) → lock_answer (s.row v) x.tid x.read ≡ Taken → (s.row v).owner ≡ Some u → u ≡ x.tid
    owner_is i x v u look owner = ⊎_elim
        (λ (free : ((s.row v).owner ≡ None) × ((s.row v).committed ≤ x.read)). absurd (none_some u (sym free.0 ∙ owner)))
        (λ (mine : (s.row v).owner ≡ Some x.tid). some_is u x.tid (sym owner ∙ mine))
        (taken_is (s.row v).owner (s.row v).committed x.tid x.read look)
