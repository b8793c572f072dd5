-- Events on rows keep the receipts and looks true.
use Rattle.core_states.specs.LogEvents.{told}
use Rattle.core_states.specs.declared.event.Reach.TheVariants as reach
use Rattle.core_states.proofs.Names.{row_is}
use Rattle.std.proofs.Common.{◌≡◌, ◌≢◌, ℕ, ◌<◌, ◌≤◌, Bool, true, false, ◌&&◌, ◌||◌, not, List, [], ◌∷◌, refl, sym, ap, ◌∙◌, subst, arith, Option, Some, None, ⊎_elim, inl, inr}
use Rattle.std.proofs.lemmas.Bool.{cases_eq, eq-eqb, and_parts, leb-false}
use Rattle.std.specs.Prelude.{if◌then◌else◌, ◌==◌, nat_le}
use Rattle.graph_model.specs.Change.{vertex_of}
use Rattle.graph_model.specs.Places.{changes_about}
use Rattle.graph_model.specs.declared.change.Change.{Change}
use Rattle.graph_model.specs.declared.change.Change.TheVariants.{New}
use Rattle.graph_model.specs.declared.graph.Base.{Base}
use Rattle.graph_model.specs.declared.record.Record.{Record}
use Rattle.stamps.specs.Stamps.{Txn}
use Rattle.vertex_locks.specs.declared.answer.Look.{Look}
use Rattle.vertex_locks.specs.declared.answer.Look.TheVariants.{Taken, Held, Conflict}
use Rattle.core_rows.specs.Rows.{Row, newest, is_there, lock_answer}
use Rattle.vertex_locks.specs.Rows.{answer_by_owner}
use Rattle.core_states.proofs.Names.{some_is}
use Rattle.core_states.specs.ClockEvents.{for_txn}
use Rattle.core_kept.specs.Good.{root_at, root, past_of, Ghost, Owned, RowOkBy, In, Good}
use Rattle.row_pasts.specs.Lives.{Past, stamped, last_epoch}
use Rattle.core_states.specs.Names.{Name, set_at}
use Rattle.core_states.specs.Numbers.{has_number, touch}
use Rattle.std.specs.Prelude.{if◌then◌else◌}
use Rattle.graph_model.specs.Records.{has_destination}
use Rattle.graph_model.specs.declared.query.Query.{Query}
use Rattle.graph_model.specs.declared.change.Change.TheVariants.{New, Set, Drop, Put, Del}
use Rattle.core_states.specs.declared.event.Act.TheVariants as act
use Rattle.core_states.specs.RowEvents.{Limits, is_long, puts, reads}
use Rattle.core_states.proofs.Names.{some_is}
use Rattle.core_states.specs.RowEvents.{RowMove, refusal, by_refusal, by_look, changes, news, looks_by, looks, applies_at, undoes}
use Rattle.row_pasts.specs.RowFits.{RowFits}
use Rattle.core_states.specs.States.{State, row_event, reach_of, after_row, after}
use Rattle.graph_model.specs.Vertex.{Vertex}
use Rattle.graph_model.specs.Graph.{vertex_at}
use Rattle.core_kept.specs.Tellings.{LookIs, HeldOk, ConflictOk, AllReceipts, LookedOk, Told}
use Rattle.core_states.specs.Touches.{txn_touched, receipt_touched}
use Rattle.core_states.specs.Transactions.{is_loser, won_epoch, is_working, holds, touching, changing, settling}
use Rattle.core_states.specs.declared.actor.Actor.{Actor}
use Rattle.core_states.specs.declared.event.Act.{Act}
use Rattle.core_states.specs.declared.event.CoreAnswer.{CoreAnswer}
use Rattle.core_states.specs.declared.transaction.Transaction.{Transaction}
use Rattle.core_kept.proofs.Frames.{row_after}
use Rattle.core_kept.proofs.Changing.{touched_here, touched_there}
use Rattle.row_pasts.proofs.Pasts.{last_epoch-append, last_epoch-stamped}
use Rattle.core_kept.proofs.Snapshots.{active_above}
use Rattle.core_kept.proofs.Tellings.{turns_on, grows_one, told_one, receipts_grow, looked_grows}

-- One transaction went on, under its number, with what it had touched.
told_on : (base : Base) (g : Ghost) (s : State) (i : Name) (v : ℕ) (x y : Transaction) (a : Actor) (row : Row) → Good base g s → (s.actor i).txn ≡ Some x → a.txn ≡ Some y → y.tid ≡ x.tid
    → ((w : ℕ) → has_number w x.touched ≡ true → has_number w y.touched ≡ true) → a.receipts ≡ (s.actor i).receipts → y.read ≡ x.read → LookedOk g s a.txn a.looked → Told g s → Told g (row_after s i v a row)
told_on base g s i v x y a row good at after tid more receipts read looked told =
    let gr = grows_one g g s s.clock i a (set_at s.row v row) (turns_on s i a x y at after tid more receipts) (omega arith) (omega arith) (λ t lt. refl) (λ t lt idle. refl) (λ t e is. inl is) (λ r m. m) in
    told_one base g g s s.clock i a (set_at s.row v row) good gr (subst (AllReceipts g (row_after s i v a row)) (sym receipts) (receipts_grow g g s (row_after s i v a row) (s.actor i).receipts gr (told i).0))
    (looked_grows g g s (row_after s i v a row) a.txn a.looked gr (λ z e. let q = ap (λ (u : Transaction). u.read) (some_is y z (sym after ∙ e)) in let b = (good.txns i x at).read_below in omega (arith, q, b, read)) looked) told

touch_more : (v w : ℕ) (xs : List ℕ) → has_number w xs ≡ true → has_number w (touch v xs) ≡ true
touch_more v w xs h = ⊎_elim (λ (e : w ≡ v). ap (λ u. has_number u (touch v xs)) e ∙ touched_here v xs) (λ (n : w ≢ v). touched_there v w xs n ∙ h) (cases_eq w v)

by_look_told : (look : Look) (base : Base) (g : Ghost) (s : State) (i : Name) (most : Limits) (c : Change) (x : Transaction) → Good base g s → (s.actor i).txn ≡ Some x → Told g s
    → Told g (after_row s i (vertex_of c) (by_look look most x c (s.row (vertex_of c)) (s.actor i)))
by_look_told Taken base g s i most c x good at told = by_refused (refusal most x c (s.row (vertex_of c)))
  where
    by_refused : (o : Option CoreAnswer) → Told g (after_row s i (vertex_of c) (by_refusal o x c (s.row (vertex_of c)) (s.actor i)))
    by_refused (Some reply) = told_on base g s i (vertex_of c) x (touching x (vertex_of c)) _ _ good at refl refl (λ w. touch_more (vertex_of c) w x.touched) refl refl tt told
    by_refused None = told_on base g s i (vertex_of c) x (changing x c) _ _ good at refl refl (λ w. touch_more (vertex_of c) w x.touched) refl refl tt told
by_look_told (Held u) base g s i most c x good at told = told
by_look_told (Conflict e) base g s i most c x good at told = told

changes_told : (base : Base) (g : Ghost) (s : State) (i : Name) (most : Limits) (c : Change) (x : Transaction) → Good base g s → (s.actor i).txn ≡ Some x → Told g s
    → Told g (after_row s i (vertex_of c) (changes most x c (s.row (vertex_of c)) (s.actor i)))
changes_told base g s i most c x good at told = by_working (is_working x) refl (is_there (newest (s.row (vertex_of c)).versions x.read (Txn x.tid))) refl
  where
    by_working : (b : Bool) → is_working x ≡ b → (d : Bool) → is_there (newest (s.row (vertex_of c)).versions x.read (Txn x.tid)) ≡ d → Told g (after_row s i (vertex_of c) (changes most x c (s.row (vertex_of c)) (s.actor i)))
    by_working false e d f = rw e told
    by_working true e false f = rw (e, f) (told_on base g s i (vertex_of c) x x _ _ good at refl refl (λ w h. h) refl refl tt told)
    by_working true e true f = rw (e, f) (by_look_told (lock_answer (s.row (vertex_of c)) x.tid x.read) base g s i most c x good at told)

news_told : (base : Base) (g : Ghost) (s : State) (i : Name) (most : Limits) (v : ℕ) (p : List ℕ) (x : Transaction) → Good base g s → (s.actor i).txn ≡ Some x → Told g s
    → Told g (after_row s i v (news most x v p (s.row v) (s.actor i)))
news_told base g s i most v p x good at told = by_tests (is_working x) refl (has_number v x.drawn) refl (is_long most x (New v p)) refl
  where
    by_tests : (b : Bool) → is_working x ≡ b → (d : Bool) → has_number v x.drawn ≡ d → (e : Bool) → is_long most x (New v p) ≡ e
        → Told g (after_row s i v (news most x v p (s.row v) (s.actor i)))
    by_tests false eb d ed e ee = rw eb told
    by_tests true eb false ed e ee = rw (eb, ed) told
    by_tests true eb true ed true ee = rw (eb, ed, ee) (told_on base g s i v x x _ _ good at refl refl (λ w h. h) refl refl tt told)
    by_tests true eb true ed false ee = rw (eb, ed, ee) (told_on base g s i v x (changing x (New v p)) _ _ good at refl refl (λ w. touch_more v w x.touched) refl refl tt told)

-- The last change of a past is a record's.
record Last (n v : ℕ) (rs : List Record) : Type 0 where
  is : Record
  among : In is rs
  epoch : is.epoch ≡ last_epoch n (past_of rs v None)
  changed : changes_about v is.changes ≢ []

last_from : (n v : ℕ) (rs : List Record) → (past_of rs v None ≡ [] → ⊥) → Last n v rs
last_from n v [] some = absurd (some refl)
last_from n v (r ∷ rs) some = by_changes (changes_about v r.changes) refl (last_from n v rs)
  where
    cons_nil : (c : Change) (cs : List Change) → c ∷ cs ≡ [] → ⊥
    cons_nil c cs q = (cc)

    by_rest : (c : Change) (cs : List Change) → changes_about v r.changes ≡ c ∷ cs → (xs : List Past) → past_of rs v None ≡ xs → ((past_of rs v None ≡ [] → ⊥) → Last n v rs) → Last n v (r ∷ rs)
    by_rest c cs e [] none ih = record {
      is = r;
      among = inl refl;
      epoch = rw e (rw none (sym (last_epoch-append n (stamped r.epoch (c ∷ cs)) [] ∙ last_epoch-stamped n r.epoch c cs)));
      changed = λ q. cons_nil c cs (sym e ∙ q);
    }
    by_rest c cs e (x ∷ xs) more ih =
        let l = ih (λ q. past_nil x xs (sym more ∙ q)) in
        record {
          is = l.is;
          among = inr l.among;
          epoch = l.epoch ∙ ap (last_epoch n) more ∙ rw e (rw more (sym (last_epoch-append n (stamped r.epoch (c ∷ cs)) (x ∷ xs))));
          changed = l.changed;
        }
      where
        past_nil : (x : Past) (xs : List Past) → x ∷ xs ≡ [] → ⊥
        past_nil x xs q = (cc)

    by_changes : (cs : List Change) → changes_about v r.changes ≡ cs → ((past_of rs v None ≡ [] → ⊥) → Last n v rs) → Last n v (r ∷ rs)
    by_changes [] e ih =
        let l = ih (λ q. some (rw e q)) in
        record { is = l.is; among = inr l.among; epoch = l.epoch ∙ rw e refl; changed = l.changed }
    by_changes (c ∷ cs) e ih = by_rest c cs e (past_of rs v None) refl ih

-- What a look finds.
conflict_found : (base : Base) (g : Ghost) (s : State) (i : Name) (v : ℕ) (x : Transaction) → Good base g s → (s.actor i).txn ≡ Some x → (s.row v).owner ≡ None → nat_le (s.row v).committed x.read ≡ false → ConflictOk s v (s.row v).committed
conflict_found base g s i v x good at free late =
    let ok : RowFits base.epoch (root base v) (past_of s.clock.records v None) [] (s.row v) = subst (λ (o : Option ℕ). RowOkBy o base g s.clock.records s.actor v (s.row v)) free (good.rows v) in
    let lt : x.read < (s.row v).committed = leb-false (s.row v).committed x.read late in
    let low : base.epoch ≤ x.read = (good.txns i x at).read_above in
    let l = last_from (root base v).epoch v s.clock.records (λ none. absurd (let a = ok.committed ∙ ap (last_epoch (root base v).epoch) none in let b = root_low base.epoch (vertex_at v base.graph) in omega (arith, a, b, lt, low))) in
    record { record_is = l.is; among = l.among; epoch = l.epoch ∙ sym ok.committed; changed = l.changed }
  where
    root_low : (e : ℕ) (n : Option Vertex) → (root_at e n).epoch ≤ e
    root_low e None = omega arith
    root_low e (Some n) = omega arith

pub held_found : (base : Base) (g : Ghost) (s : State) (i : Name) (v u : ℕ) (x : Transaction) → Good base g s → (s.actor i).txn ≡ Some x → (s.row v).owner ≡ Some u → HeldOk g s v u x.read
held_found base g s i v u x good at owner =
    let ok : Owned base g s.clock.records s.actor v (s.row v) u = subst (λ (o : Option ℕ). RowOkBy o base g s.clock.records s.actor v (s.row v)) owner (good.rows v) in
    let theirs = good.txns (g.who u) ok.txn ok.is in
    let low : x.read ≤ s.clock.visible = (good.txns i x at).read_below in
    record {
      below = rw (← ok.tid) theirs.below;
      touched = ap (λ o. txn_touched o u v || receipt_touched (s.actor (g.who u)).receipts u v) ok.is ∙ rw (eq-eqb ok.txn.tid u ok.tid, (and_parts (has_number v ok.txn.touched) (not (has_number v ok.txn.settled)) ok.held).0) refl;
      later = λ e is. let lt = active_above s.clock.visible s.clock.last ok.txn.tid e s.clock.pending good.pending (theirs.pending e (ap g.place ok.tid ∙ is)) in omega arith;
    }

-- the kept look is true
pub look_found : (o : Option ℕ) (look : Look) (base : Base) (g : Ghost) (s : State) (i : Name) (v : ℕ) (x : Transaction) → Good base g s → (s.actor i).txn ≡ Some x → (s.row v).owner ≡ o → answer_by_owner o (s.row v).committed x.tid x.read ≡ look → LookIs g s x.read v look
look_found None Taken base g s i v x good at owner is = tt
look_found None (Held u) base g s i v x good at owner is = absurd (no_held (nat_le (s.row v).committed x.read) is)
  where
    no_held : (b : Bool) → (if b then Taken else Conflict (s.row v).committed) ≡ Held u → ⊥
    no_held true q = (cc)
    no_held false q = (cc)
look_found None (Conflict e) base g s i v x good at owner is = by_test (nat_le (s.row v).committed x.read) refl is
  where
    conflict_is : (m n : ℕ) → Conflict m ≡ Conflict n → m ≡ n
    conflict_is m n q = (cc)

    taken_conflict : Taken ≡ Conflict e → ⊥
    taken_conflict q = (cc)

    by_test : (b : Bool) → nat_le (s.row v).committed x.read ≡ b → (if b then Taken else Conflict (s.row v).committed) ≡ Conflict e → ConflictOk s v e
    by_test true h q = absurd (taken_conflict q)
    by_test false h q = subst (ConflictOk s v) (conflict_is (s.row v).committed e q) (conflict_found base g s i v x good at owner h)
look_found (Some u) Taken base g s i v x good at owner is = tt
look_found (Some u) (Held w) base g s i v x good at owner is = by_test (u == x.tid) is
  where
    held_is : Held u ≡ Held w → u ≡ w
    held_is q = (cc)

    taken_held : Taken ≡ Held w → ⊥
    taken_held q = (cc)

    by_test : (b : Bool) → (if b then Taken else Held u) ≡ Held w → HeldOk g s v w x.read
    by_test true q = absurd (taken_held q)
    by_test false q = subst (λ t. HeldOk g s v t x.read) (held_is q) (held_found base g s i v u x good at owner)
look_found (Some u) (Conflict e) base g s i v x good at owner is = absurd (no_conflict (u == x.tid) is)
  where
    no_conflict : (b : Bool) → (if b then Taken else Held u) ≡ Conflict e → ⊥
    no_conflict true q = (cc)
    no_conflict false q = (cc)

looks_told : (base : Base) (g : Ghost) (s : State) (i : Name) (v : ℕ) (x : Transaction) → Good base g s → (s.actor i).txn ≡ Some x → Told g s → Told g (after_row s i v (looks x v (s.row v) (s.actor i)))
looks_told base g s i v x good at told = by_tests (is_working x) refl (is_there (newest (s.row v).versions x.read (Txn x.tid))) refl
  where
    by_look' : (look : Look) → lock_answer (s.row v) x.tid x.read ≡ look → Told g (after_row s i v (looks_by look x v (s.row v) (s.actor i)))
    by_look' Taken is = told
    by_look' (Held u) is = told_on base g s i v x x _ _ good at refl refl (λ w h. h) refl refl (look_found (s.row v).owner (Held u) base g s i v x good at refl is) told
    by_look' (Conflict e) is = told_on base g s i v x x _ _ good at refl refl (λ w h. h) refl refl (look_found (s.row v).owner (Conflict e) base g s i v x good at refl is) told

    by_tests : (b : Bool) → is_working x ≡ b → (d : Bool) → is_there (newest (s.row v).versions x.read (Txn x.tid)) ≡ d → Told g (after_row s i v (looks x v (s.row v) (s.actor i)))
    by_tests false eb d ed = rw eb told
    by_tests true eb false ed = rw (eb, ed) told
    by_tests true eb true ed = rw (eb, ed) (by_look' (lock_answer (s.row v) x.tid x.read) refl)

-- apply and undo. An undo keeps the last look
applies_told : (base : Base) (g : Ghost) (s : State) (i : Name) (v : ℕ) (x : Transaction) (o : Option ℕ) → Good base g s → (s.actor i).txn ≡ Some x → Told g s → Told g (after_row s i v (applies_at o x v (s.row v) (s.actor i)))
applies_told base g s i v x None good at told = told
applies_told base g s i v x (Some e) good at told = by_test (holds x v) refl
  where
    by_test : (b : Bool) → holds x v ≡ b → Told g (after_row s i v (applies_at (Some e) x v (s.row v) (s.actor i)))
    by_test false h = rw h told
    by_test true h = rw h (told_on base g s i v x (settling x v) _ _ good at refl refl (λ w q. q) refl refl tt told)

undoes_told : (base : Base) (g : Ghost) (s : State) (i : Name) (v : ℕ) (x : Transaction) → Good base g s → (s.actor i).txn ≡ Some x → Told g s → Told g (after_row s i v (undoes x v (s.row v) (s.actor i)))
undoes_told base g s i v x good at told = by_test (is_loser x.stage && holds x v) refl
  where
    by_test : (b : Bool) → (is_loser x.stage && holds x v) ≡ b → Told g (after_row s i v (undoes x v (s.row v) (s.actor i)))
    by_test false h = rw h told
    by_test true h = rw h (told_on base g s i v x (settling x v) _ _ good at refl refl (λ w q. q) refl refl (subst (λ (o : Option Transaction). LookedOk g s o (s.actor i).looked) at (told i).1) told)

for_told : (g : Ghost) (s : State) (i : Name) (v : ℕ) (f : Transaction → Option RowMove) (o : Option Transaction) → Told g s → ((x : Transaction) → o ≡ Some x → Told g (after_row s i v (f x))) → Told g (after_row s i v (for_txn f o))
for_told g s i v f None told each = told
for_told g s i v f (Some x) told each = each x refl

puts_told : (base : Base) (g : Ghost) (s : State) (i : Name) (most : Limits) (c : Change) (x : Transaction) → Good base g s → (s.actor i).txn ≡ Some x → Told g s
    → Told g (after_row s i (vertex_of c) (puts most x c (s.row (vertex_of c)) (s.actor i)))
puts_told base g s i most c x good at told = by_test (has_destination c)
  where
    by_test : (b : Bool) → Told g (after_row s i (vertex_of c) (if b then changes most x c (s.row (vertex_of c)) (s.actor i) else None))
    by_test false = told
    by_test true = changes_told base g s i most c x good at told

reads_told : (base : Base) (g : Ghost) (s : State) (i : Name) (v : ℕ) (q : Query) (x : Transaction) → Good base g s → (s.actor i).txn ≡ Some x → Told g s
    → Told g (after_row s i v (reads x q (s.row v) (s.actor i)))
reads_told base g s i v q x good at told = by_test (is_working x) refl
  where
    by_test : (b : Bool) → is_working x ≡ b → Told g (after_row s i v (reads x q (s.row v) (s.actor i)))
    by_test false e = rw e told
    by_test true e = rw e (told_on base g s i v x x _ _ good at refl refl (λ w h. h) refl refl tt told)

pub row_told : (base : Base) (g : Ghost) (s : State) (i : Name) (v : ℕ) (most : Limits) (action : Act) → reach_of action ≡ reach.Row v → Good base g s → Told g s
    → Told g (after_row s i v (row_event most action (s.row v) (s.actor i)))
row_told base g s i v most (act.Look w) at good told = subst (λ u. Told g (after_row s i u (row_event most (act.Look w) (s.row u) (s.actor i)))) (row_is w v at)
    (for_told g s i w (λ x. looks x w (s.row w) (s.actor i)) (s.actor i).txn told (λ x e. looks_told base g s i w x good e told))
row_told base g s i v most (act.Put w l d p) at good told = subst (λ u. Told g (after_row s i u (row_event most (act.Put w l d p) (s.row u) (s.actor i)))) (row_is w v at)
    (for_told g s i w (λ x. puts most x (Put w l d p) (s.row w) (s.actor i)) (s.actor i).txn told (λ x e. puts_told base g s i most (Put w l d p) x good e told))
row_told base g s i v most (act.Del w l d) at good told = subst (λ u. Told g (after_row s i u (row_event most (act.Del w l d) (s.row u) (s.actor i)))) (row_is w v at)
    (for_told g s i w (λ x. changes most x (Del w l d) (s.row w) (s.actor i)) (s.actor i).txn told (λ x e. changes_told base g s i most (Del w l d) x good e told))
row_told base g s i v most (act.Set w p) at good told = subst (λ u. Told g (after_row s i u (row_event most (act.Set w p) (s.row u) (s.actor i)))) (row_is w v at)
    (for_told g s i w (λ x. changes most x (Set w p) (s.row w) (s.actor i)) (s.actor i).txn told (λ x e. changes_told base g s i most (Set w p) x good e told))
row_told base g s i v most (act.Drop w) at good told = subst (λ u. Told g (after_row s i u (row_event most (act.Drop w) (s.row u) (s.actor i)))) (row_is w v at)
    (for_told g s i w (λ x. changes most x (Drop w) (s.row w) (s.actor i)) (s.actor i).txn told (λ x e. changes_told base g s i most (Drop w) x good e told))
row_told base g s i v most (act.New w p) at good told = subst (λ u. Told g (after_row s i u (row_event most (act.New w p) (s.row u) (s.actor i)))) (row_is w v at)
    (for_told g s i w (λ x. news most x w p (s.row w) (s.actor i)) (s.actor i).txn told (λ x e. news_told base g s i most w p x good e told))
row_told base g s i v most (act.Read q) at good told = for_told g s i v (λ x. reads x q (s.row v) (s.actor i)) (s.actor i).txn told (λ x e. reads_told base g s i v q x good e told)
row_told base g s i v most (act.Apply w) at good told = subst (λ u. Told g (after_row s i u (row_event most (act.Apply w) (s.row u) (s.actor i)))) (row_is w v at)
    (for_told g s i w (λ x. applies_at (won_epoch x.stage) x w (s.row w) (s.actor i)) (s.actor i).txn told (λ x e. applies_told base g s i w x (won_epoch x.stage) good e told))
row_told base g s i v most (act.Undo w) at good told = subst (λ u. Told g (after_row s i u (row_event most (act.Undo w) (s.row u) (s.actor i)))) (row_is w v at)
    (for_told g s i w (λ x. undoes x w (s.row w) (s.actor i)) (s.actor i).txn told (λ x e. undoes_told base g s i w x good e told))
row_told base g s i v most act.Open at good told = told
row_told base g s i v most act.Close at good told = told
row_told base g s i v most act.Begin at good told = told
row_told base g s i v most act.Draw at good told = told
row_told base g s i v most act.Enqueue at good told = told
row_told base g s i v most act.Collect at good told = told
row_told base g s i v most act.Publish at good told = told
row_told base g s i v most act.Outcome at good told = told
row_told base g s i v most act.Done at good told = told
row_told base g s i v most act.Seen at good told = told
row_told base g s i v most act.End at good told = told
row_told base g s i v most act.Horizon at good told = told
row_told base g s i v most (act.Fail f t) at good told = told
row_told base g s i v most (act.WriteGroup m) at good told = told
row_told base g s i v most act.Mend at good told = told
