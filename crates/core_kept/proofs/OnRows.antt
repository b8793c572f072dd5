-- Each event on a row keeps the facts.
use Rattle.core_states.specs.declared.event.Reach.TheVariants as reach
use Rattle.core_states.proofs.Names.{row_is}
use Rattle.std.proofs.Common.{◌≡◌, ◌≢◌, ℕ, ◌<◌, ◌≤◌, Bool, true, false, ◌&&◌, List, [], ◌∷◌, ◌++◌, refl, sym, ap, ◌∙◌, subst, arith, Option, Some, None, ⊎_elim, append-nil}
use Rattle.std.proofs.lemmas.Bool.{cases_eq, eq-eqb, ne_eqb, and_parts, false≢true}
use Rattle.std.proofs.lemmas.Bool.Decides.{nat_tests}
use Rattle.std.specs.Prelude.{if◌then◌else◌}
use Rattle.graph_model.specs.Change.{vertex_of}
use Rattle.graph_model.specs.Places.{changes_about}
use Rattle.graph_model.specs.Records.{has_destination}
use Rattle.graph_model.specs.declared.query.Query.{Query}
use Rattle.graph_model.specs.declared.change.Change.{Change}
use Rattle.graph_model.specs.declared.change.Change.TheVariants.{New, Set, Drop, Put, Del}
use Rattle.graph_model.specs.declared.graph.Base.{Base}
use Rattle.graph_model.specs.declared.record.Outcome.TheVariants.{Committed, Failed}
use Rattle.stamps.specs.Stamps.{Txn}
use Rattle.vertex_locks.specs.declared.answer.Look.{Look}
use Rattle.vertex_locks.specs.declared.answer.Look.TheVariants.{Taken, Held, Conflict}
use Rattle.core_rows.specs.Rows.{Row, fresh_row, Life, Unborn, There, Gone, newest, is_there, lock_answer, taken_row, push_row, apply_row, undo_row}
use Rattle.core_states.proofs.Names.{set_at_here, set_at_there, some_is}
use Rattle.core_states.specs.ClockEvents.{for_txn}
use Rattle.core_kept.specs.Good.{root, past_of, part_of, Place, InLog, Ghost, Owned, RowOkBy, RowOk, published, StageOk, TxnOk, LearntOk, Good}
use Rattle.row_pasts.specs.Lives.{lives, fits, all_fit, Past, changes_of, stamped}
use Rattle.core_states.specs.Names.{Name, set_at, set_name}
use Rattle.core_states.specs.Numbers.{has_number}
use Rattle.core_states.specs.RowEvents.{Limits, is_long, puts, reads, RowMove, changed_row, refusal, by_look, changes, news, looks_by, looks, has_change, applies_at, undoes}
use Rattle.row_pasts.specs.RowFits.{Rooted, RowFits}
use Rattle.core_states.specs.States.{State, row_event, reach_of, after_row, after}
use Rattle.core_states.specs.Transactions.{is_loser, won_epoch, is_working, holds, changing, settling, with_txn}
use Rattle.core_states.specs.declared.actor.Actor.{Actor}
use Rattle.core_states.specs.declared.clock.Clock.{Clock}
use Rattle.core_states.specs.declared.event.Act.{Act}
use Rattle.core_states.specs.declared.event.Act.TheVariants as act
use Rattle.core_states.specs.declared.transaction.Stage.{Stage}
use Rattle.core_states.specs.declared.transaction.Stage.TheVariants.{Open, Queued, Decided}
use Rattle.core_states.specs.declared.transaction.Transaction.{Transaction}
use Rattle.row_pasts.proofs.Pasts.{until_late}
use Rattle.row_pasts.proofs.RowSteps.{as_taken, row_new, row_apply, row_release, row_undo}
use Rattle.core_kept.proofs.Frames.{Same, Local, row_after, local_keeps, quiet_keeps}
use Rattle.core_kept.proofs.Changing.{is_new, works, takes, past_skip, changes_taken, own_free, change_local, below_next, both_nil}

-- a row in place of itself
set_again : {A : Type 0} (f : ℕ → A) (k : ℕ) → set_at f k (f k) ≡ f
set_again f k = λ i j. again j i
  where
    again : (j : ℕ) → set_at f k (f k) j ≡ f j
    again j = ⊎_elim (λ (e : j ≡ k). set_at_here f k (f k) j e ∙ ap f (sym e)) (λ (n : j ≢ k). set_at_there f k (f k) j n) (cases_eq j k)

-- An event that leaves its row and its transaction.
pub quiet_on : (base : Base) (g : Ghost) (s : State) (i : Name) (v : ℕ) (a : Actor) → a.txn ≡ (s.actor i).txn → a.group ≡ (s.actor i).group → a.learnt ≡ (s.actor i).learnt → Good base g s → Good base g (row_after s i v a (s.row v))
quiet_on base g s i v a same group learnt good = subst (λ (rows : ℕ → Row). Good base g (record s { actor = set_name s.actor i a; row = rows })) (sym (set_again s.row v)) (quiet_keeps base g s i a same group (subst (LearntOk s.clock) (sym learnt) (good.learnt i)) good)

-- put, del, set and drop
by_look_keeps : (look : Look) (base : Base) (g : Ghost) (s : State) (i : Name) (most : Limits) (c : Change) (x : Transaction) → Good base g s → (s.actor i).txn ≡ Some x → is_new c ≡ false → is_working x ≡ true
    → is_there (newest (s.row (vertex_of c)).versions x.read (Txn x.tid)) ≡ true → lock_answer (s.row (vertex_of c)) x.tid x.read ≡ look
    → Good base g (after_row s i (vertex_of c) (by_look look most x c (s.row (vertex_of c)) (s.actor i)))
by_look_keeps Taken base g s i most c x good at old working there is = changes_taken base g s i c x good at old working there is (refusal most x c (s.row (vertex_of c)))
by_look_keeps (Held u) base g s i most c x good at old working there is = good
by_look_keeps (Conflict e) base g s i most c x good at old working there is = good

pub changes_keep : (base : Base) (g : Ghost) (s : State) (i : Name) (most : Limits) (c : Change) (x : Transaction) → Good base g s → (s.actor i).txn ≡ Some x → is_new c ≡ false
    → Good base g (after_row s i (vertex_of c) (changes most x c (s.row (vertex_of c)) (s.actor i)))
changes_keep base g s i most c x good at old = by_working (is_working x) refl (is_there (newest (s.row (vertex_of c)).versions x.read (Txn x.tid))) refl
  where
    by_working : (b : Bool) → is_working x ≡ b → (d : Bool) → is_there (newest (s.row (vertex_of c)).versions x.read (Txn x.tid)) ≡ d → Good base g (after_row s i (vertex_of c) (changes most x c (s.row (vertex_of c)) (s.actor i)))
    by_working false e d f = rw e good
    by_working true e false f = rw (e, f) (quiet_on base g s i (vertex_of c) (with_txn (s.actor i) (Some x)) (sym at) refl refl good)
    by_working true e true f = rw (e, f) (by_look_keeps (lock_answer (s.row (vertex_of c)) x.tid x.read) base g s i most c x good at old e f refl)

-- new. The row of a drawn number is fresh, and nothing changed the vertex.
abbrev pub is_born : Life → Bool
is_born Unborn = false
is_born (There p) = true
is_born Gone = true

pub born_stays : (cs : List Change) (x : Life) → is_born x ≡ true → is_born (lives cs x) ≡ true
born_stays [] x b = b
born_stays (New v p ∷ cs) x b = born_stays cs (There p) refl
born_stays (Set v p ∷ cs) x b = born_stays cs (There p) refl
born_stays (Drop v ∷ cs) x b = born_stays cs Gone refl
born_stays (Put v l d p ∷ cs) x b = born_stays cs x b
born_stays (Del v l d ∷ cs) x b = born_stays cs x b

unborn_changes : (cs : List Change) → all_fit cs Unborn ≡ true → lives cs Unborn ≡ Unborn → cs ≡ []
unborn_changes [] f e = refl
unborn_changes (New v p ∷ cs) f e = absurd (false≢true (ap is_born (sym e) ∙ born_stays cs (There p) refl))
unborn_changes (Set v p ∷ cs) f e = absurd (false≢true f)
unborn_changes (Drop v ∷ cs) f e = absurd (false≢true f)
unborn_changes (Put v l d p ∷ cs) f e = absurd (false≢true f)
unborn_changes (Del v l d ∷ cs) f e = absurd (false≢true f)

unborn_life : (x : Life) (cs : List Change) → lives cs x ≡ Unborn → x ≡ Unborn
unborn_life Unborn cs e = refl
unborn_life (There p) cs e = absurd (false≢true (ap is_born (sym e) ∙ born_stays cs (There p) refl))
unborn_life Gone cs e = absurd (false≢true (ap is_born (sym e) ∙ born_stays cs Gone refl))

no_past : (past : List Past) → changes_of past ≡ [] → past ≡ []
no_past [] e = refl
no_past (x ∷ past) e = absurd (cc)

-- what a fresh row tells
pub record Fresh (base : Rooted) (xs : List Past) : Type 0 where
  pub unborn : base.life ≡ Unborn
  pub past : xs ≡ []

pub fresh_tells : (f : ℕ) (base : Rooted) (past : List Past) → RowFits f base past [] fresh_row → Fresh base past
fresh_tells f base past fit =
    let said : lives (changes_of past) base.life ≡ Unborn = sym (fit.life.others f (omega arith) ∙ ap (λ cs. lives cs base.life) (until_late 0 f past fit.past_low (omega arith))) in
    let unborn = unborn_life base.life (changes_of past) said in
    record {
      unborn = unborn;
      past = no_past past (unborn_changes (changes_of past) (rw unborn at fit.past_fits) (rw unborn at said));
    }

pub news_made : (base : Base) (g : Ghost) (s : State) (i : Name) (v : ℕ) (p : List ℕ) (x : Transaction) → Good base g s → (s.actor i).txn ≡ Some x → is_working x ≡ true → has_number v x.drawn ≡ true
    → Good base g (row_after s i v (with_txn (s.actor i) (Some (changing x (New v p)))) (changed_row x (New v p) (s.row v)))
news_made base g s i v p x good at working h =
    let w = works x working in
    let fresh = (good.drawn i x at v h).fresh in
    let free : (s.row v).owner ≡ None = ap (λ (r : Row). r.owner) fresh in
    let t = takes base g s i v x good at w (rw fresh (grind (arith, nat_tests))) in
    let ok : RowFits base.epoch (root base v) (past_of s.clock.records v None) [] fresh_row = subst (λ (r : Row). RowOk base g s.clock.records s.actor v r) fresh (good.rows v) in
    let tells = fresh_tells base.epoch (root base v) (past_of s.clock.records v None) ok in
    let own = own_free base g s i v x good at w free in
    local_keeps base g s i v x (changing x (New v p)) (with_txn (s.actor i) (Some (changing x (New v p)))) (changed_row x (New v p) (s.row v))
    (change_local base g s i (New v p) x (changed_row x (New v p) (s.row v)) good at w (λ _. h) (good.drawn i x at v h).below t refl refl
    (subst (λ (r : Row). RowFits base.epoch (root base v) (past_of s.clock.records v (Some x.tid)) (changes_about v x.own ++ New v p ∷ []) (push_row x.tid (Some p) r)) (sym fresh)
    (rw own (rw (both_nil (past_of s.clock.records v (Some x.tid)) (part_of s.clock.records v x.tid) (sym t.last ∙ tells.past)).0
    (row_new base.epoch (root base v) x.tid v p tells.unborn (rw tells.past at ok)))))) good

pub news_keep : (base : Base) (g : Ghost) (s : State) (i : Name) (most : Limits) (v : ℕ) (p : List ℕ) (x : Transaction) → Good base g s → (s.actor i).txn ≡ Some x
    → Good base g (after_row s i v (news most x v p (s.row v) (s.actor i)))
news_keep base g s i most v p x good at = by_tests (is_working x) refl (has_number v x.drawn) refl (is_long most x (New v p)) refl
  where
    by_tests : (b : Bool) → is_working x ≡ b → (d : Bool) → has_number v x.drawn ≡ d → (e : Bool) → is_long most x (New v p) ≡ e
        → Good base g (after_row s i v (news most x v p (s.row v) (s.actor i)))
    by_tests false eb d ed e ee = rw eb good
    by_tests true eb false ed e ee = rw (eb, ed) good
    by_tests true eb true ed true ee = rw (eb, ed, ee) (quiet_on base g s i v (with_txn (s.actor i) (Some x)) (sym at) refl refl good)
    by_tests true eb true ed false ee = rw (eb, ed, ee) (news_made base g s i v p x good at eb ed)

-- look
pub looks_keep : (base : Base) (g : Ghost) (s : State) (i : Name) (v : ℕ) (x : Transaction) → Good base g s → (s.actor i).txn ≡ Some x
    → Good base g (after_row s i v (looks x v (s.row v) (s.actor i)))
looks_keep base g s i v x good at = by_tests (is_working x) refl (is_there (newest (s.row v).versions x.read (Txn x.tid))) refl
  where
    by_look' : (look : Look) → Good base g (after_row s i v (looks_by look x v (s.row v) (s.actor i)))
    by_look' Taken = good
    by_look' (Held u) = quiet_on base g s i v (record (s.actor i) { txn = Some x; looked = Some (record { v = v; look = Held u }) }) (sym at) refl refl good
    by_look' (Conflict e) = quiet_on base g s i v (record (s.actor i) { txn = Some x; looked = Some (record { v = v; look = Conflict e }) }) (sym at) refl refl good

    by_tests : (b : Bool) → is_working x ≡ b → (d : Bool) → is_there (newest (s.row v).versions x.read (Txn x.tid)) ≡ d → Good base g (after_row s i v (looks x v (s.row v) (s.actor i)))
    by_tests false eb d ed = rw eb good
    by_tests true eb false ed = rw (eb, ed) good
    by_tests true eb true ed = rw (eb, ed) (by_look' (lock_answer (s.row v) x.tid x.read))

-- A vertex that its owner lets go of: undone, or applied.
settle_ok : (base : Base) (g : Ghost) (k : Clock) (i : Name) (v : ℕ) (x : Transaction) → (x.stage ≡ Queued → ⊥) → TxnOk base g k i x → TxnOk base g k i (settling x v)
settle_ok base g k i v x free ok = record {
  who = ok.who;
  above = ok.above;
  below = ok.below;
  read_above = ok.read_above;
  read_below = ok.read_below;
  row = ok.row;
  touched = ok.touched;
  stage = settled_stage x.stage free ok.stage;
  record_is = ok.record_is;
  pending = ok.pending;
  later = ok.later;
  recorded = ok.recorded;
}
  where
    settled_stage : (stage : Stage) → (stage ≡ Queued → ⊥) → StageOk stage x.settled (g.place x.tid) → StageOk stage (v ∷ x.settled) (g.place x.tid)
    settled_stage Open f ok = ok
    settled_stage Queued f ok = absurd (f refl)
    settled_stage (Decided (Committed e)) f ok = ok
    settled_stage (Decided (Failed b a)) f ok = ok

settle_same : (v : ℕ) (x : Transaction) (w : ℕ) → w ≢ v → Same w x (settling x v)
settle_same v x w n = record { tid = refl; read = refl; held = rw (ne_eqb v w (λ e. n (sym e))) refl; own = refl }

-- the owner's own view of its row
pub record Keeps (base : Base) (s : State) (v : ℕ) (x : Transaction) : Type 0 where
  pub read : (s.row v).committed ≤ x.read
  pub last : past_of s.clock.records v None ≡ past_of s.clock.records v (Some x.tid) ++ part_of s.clock.records v x.tid
  pub fits : RowFits base.epoch (root base v) (past_of s.clock.records v (Some x.tid)) (changes_about v x.own) (taken_row x.tid (s.row v))

pub keeps : (base : Base) (g : Ghost) (s : State) (i : Name) (v : ℕ) (x : Transaction) → Good base g s → (s.actor i).txn ≡ Some x → holds x v ≡ true → Keeps base s v x
keeps base g s i v x good at held =
    let owner = good.held i x at v held in
    let ok : Owned base g s.clock.records s.actor v (s.row v) x.tid = subst (λ (o : Option ℕ). RowOkBy o base g s.clock.records s.actor v (s.row v)) owner (good.rows v) in
    let is : ok.txn ≡ x = some_is ok.txn x (sym ok.is ∙ ap (λ j. (s.actor j).txn) (good.txns i x at).who ∙ at) in
    record {
      read = rw (← is) ok.read;
      last = ok.last;
      fits = subst (λ (y : Transaction). RowFits base.epoch (root base v) (past_of s.clock.records v (Some x.tid)) (changes_about v y.own) (taken_row x.tid (s.row v))) is (subst (RowFits base.epoch (root base v) (past_of s.clock.records v (Some x.tid)) (changes_about v ok.txn.own)) (as_taken x.tid (s.row v) owner) ok.fits);
    }

settle_local : (base : Base) (g : Ghost) (s : State) (i : Name) (v : ℕ) (x : Transaction) (a : Actor) (row : Row) → Good base g s → (s.actor i).txn ≡ Some x → holds x v ≡ true → (x.stage ≡ Queued → ⊥)
    → a.txn ≡ Some (settling x v) → a.group ≡ (s.actor i).group → a.learnt ≡ (s.actor i).learnt → row.owner ≡ None
    → RowFits base.epoch (root base v) (past_of s.clock.records v None) [] row → Local base g s i v x (settling x v) a row
settle_local base g s i v x a row good at held free after group learnt owner fits = record {
  before = at;
  after = after;
  group = group;
  learnt = learnt;
  tid = refl;
  read = refl;
  free = free;
  same = settle_same v x;
  txn = settle_ok base g s.clock i v x free (good.txns i x at);
  drawn = λ u h. (h, λ e. used (subst (λ z. s.row z ≡ fresh_row) e (good.drawn i x at u h).fresh));
  used = λ e. absurd (used e);
  below = below_next base g s v good used;
  mine = λ t e. some_is t x.tid (sym e ∙ good.held i x at v held);
  held = λ h. absurd (false≢true (sym gone ∙ h));
  row_ok = subst (λ (o : Option ℕ). RowOkBy o base g s.clock.records (set_name s.actor i a) v row) (sym owner) fits;
}
  where
    none_some' : None ≡ Some x.tid → ⊥
    none_some' e = (cc)

    used : s.row v ≡ fresh_row → ⊥
    used e = none_some' (sym (ap (λ (r : Row). r.owner) e) ∙ good.held i x at v held)

    gone : holds (settling x v) v ≡ false
    gone = rw (eq-eqb v v refl) (both_false (has_number v x.touched))
      where
        both_false : (b : Bool) → (b && false) ≡ false
        both_false true = refl
        both_false false = refl

-- undo
undo_made : (base : Base) (g : Ghost) (s : State) (i : Name) (v : ℕ) (x : Transaction) → Good base g s → (s.actor i).txn ≡ Some x → holds x v ≡ true → is_loser x.stage ≡ true
    → Good base g (row_after s i v (record (s.actor i) { txn = Some (settling x v) }) (undo_row x.tid (s.row v)))
undo_made base g s i v x good at held loser =
    let k = keeps base g s i v x good at held in
    let ok = good.txns i x at in
    let nothing : part_of s.clock.records v x.tid ≡ [] = ok.record_is v ∙ lost x.stage (g.place x.tid) loser ok.stage in
    local_keeps base g s i v x (settling x v) _ (undo_row x.tid (s.row v))
    (settle_local base g s i v x _ (undo_row x.tid (s.row v)) good at held (not_queued x.stage loser) refl refl refl refl
    (rw (past_skip s.clock.records v x.tid nothing) (row_undo base.epoch (root base v) (past_of s.clock.records v (Some x.tid)) x.tid (changes_about v x.own) (s.row v) k.fits))) good
  where
    not_queued : (stage : Stage) → is_loser stage ≡ true → stage ≡ Queued → ⊥
    not_queued stage e q = false≢true (sym (ap is_loser q) ∙ e)

    lost : (stage : Stage) (place : Place) → is_loser stage ≡ true → StageOk stage x.settled place → published place (changes_about v x.own) ≡ []
    lost Open place e ok = rw ok refl
    lost Queued place e ok = absurd (false≢true e)
    lost (Decided (Committed n)) place e ok = absurd (false≢true e)
    lost (Decided (Failed b a)) place e ok = rw ok refl

pub undoes_keep : (base : Base) (g : Ghost) (s : State) (i : Name) (v : ℕ) (x : Transaction) → Good base g s → (s.actor i).txn ≡ Some x
    → Good base g (after_row s i v (undoes x v (s.row v) (s.actor i)))
undoes_keep base g s i v x good at = by_test (is_loser x.stage && holds x v) refl
  where
    by_test : (b : Bool) → (is_loser x.stage && holds x v) ≡ b → Good base g (after_row s i v (undoes x v (s.row v) (s.actor i)))
    by_test false e = rw e good
    by_test true e = let p = and_parts (is_loser x.stage) (holds x v) e in rw e (undo_made base g s i v x good at p.1 p.0)

-- apply
apply_fits : (base : Base) (s : State) (v e : ℕ) (x : Transaction) (own : List Change) → Keeps base s v x → changes_about v x.own ≡ own → part_of s.clock.records v x.tid ≡ stamped e (changes_about v x.own) → x.read < e
    → RowFits base.epoch (root base v) (past_of s.clock.records v None) [] (apply_row x.tid e (has_change own) (s.row v))
apply_fits base s v e x [] k own part late =
    rw k.last (rw part (rw own (rw (append-nil (past_of s.clock.records v (Some x.tid))) (row_release base.epoch (root base v) (past_of s.clock.records v (Some x.tid)) x.tid e (s.row v) (rw own at k.fits)))))
apply_fits base s v e x (c ∷ own) k is part late =
    let low = k.read in
    rw k.last (rw part (rw is (row_apply base.epoch (root base v) (past_of s.clock.records v (Some x.tid)) x.tid e c own (s.row v) (omega arith) (rw is at k.fits))))

apply_made : (base : Base) (g : Ghost) (s : State) (i : Name) (v e : ℕ) (x : Transaction) → Good base g s → (s.actor i).txn ≡ Some x → holds x v ≡ true → x.stage ≡ Decided (Committed e)
    → Good base g (row_after s i v (with_txn (s.actor i) (Some (settling x v))) (apply_row x.tid e (has_change (changes_about v x.own)) (s.row v)))
apply_made base g s i v e x good at held stage =
    let ok = good.txns i x at in
    let place : g.place x.tid ≡ InLog e = subst (λ (y : Stage). StageOk y x.settled (g.place x.tid)) stage ok.stage in
    local_keeps base g s i v x (settling x v) (with_txn (s.actor i) (Some (settling x v))) (apply_row x.tid e (has_change (changes_about v x.own)) (s.row v))
    (settle_local base g s i v x (with_txn (s.actor i) (Some (settling x v))) (apply_row x.tid e (has_change (changes_about v x.own)) (s.row v)) good at held not_queued refl refl refl refl
    (apply_fits base s v e x (changes_about v x.own) (keeps base g s i v x good at held) refl (ok.record_is v ∙ rw place refl) (ok.later e place))) good
  where
    not_queued : x.stage ≡ Queued → ⊥
    not_queued q = ended_queued (sym stage ∙ q)
      where
        ended_queued : Decided (Committed e) ≡ Queued → ⊥
        ended_queued q = (cc)

pub won_is : (stage : Stage) (e : ℕ) → won_epoch stage ≡ Some e → stage ≡ Decided (Committed e)
won_is Open e h = absurd (cc)
won_is Queued e h = absurd (cc)
won_is (Decided (Committed n)) e h = ap (λ m. Decided (Committed m)) (some_is n e h)
won_is (Decided (Failed b a)) e h = absurd (cc)

pub applies_keep : (base : Base) (g : Ghost) (s : State) (i : Name) (v : ℕ) (x : Transaction) → Good base g s → (s.actor i).txn ≡ Some x
    → (o : Option ℕ) → won_epoch x.stage ≡ o → Good base g (after_row s i v (applies_at o x v (s.row v) (s.actor i)))
applies_keep base g s i v x good at None is = good
applies_keep base g s i v x good at (Some e) is = by_test (holds x v) refl
  where
    by_test : (b : Bool) → holds x v ≡ b → Good base g (after_row s i v (applies_at (Some e) x v (s.row v) (s.actor i)))
    by_test false h = rw h good
    by_test true h = rw h (apply_made base g s i v e x good at h (won_is x.stage e is))

-- All events on a shard.
for_keep : (base : Base) (g : Ghost) (s : State) (i : Name) (v : ℕ) (f : Transaction → Option RowMove) (o : Option Transaction) → Good base g s
    → ((x : Transaction) → o ≡ Some x → Good base g (after_row s i v (f x))) → Good base g (after_row s i v (for_txn f o))
for_keep base g s i v f None good each = good
for_keep base g s i v f (Some x) good each = each x refl

-- read
pub reads_keep : (base : Base) (g : Ghost) (s : State) (i : Name) (v : ℕ) (q : Query) (x : Transaction) → Good base g s → (s.actor i).txn ≡ Some x
    → Good base g (after_row s i v (reads x q (s.row v) (s.actor i)))
reads_keep base g s i v q x good at = by_test (is_working x) refl
  where
    by_test : (b : Bool) → is_working x ≡ b → Good base g (after_row s i v (reads x q (s.row v) (s.actor i)))
    by_test false e = rw e good
    by_test true e = rw e (quiet_on base g s i v (with_txn (s.actor i) (Some x)) (sym at) refl refl good)

-- put
puts_keep : (base : Base) (g : Ghost) (s : State) (i : Name) (most : Limits) (c : Change) (x : Transaction) → Good base g s → (s.actor i).txn ≡ Some x → is_new c ≡ false
    → Good base g (after_row s i (vertex_of c) (puts most x c (s.row (vertex_of c)) (s.actor i)))
puts_keep base g s i most c x good at old = by_test (has_destination c)
  where
    by_test : (b : Bool) → Good base g (after_row s i (vertex_of c) (if b then changes most x c (s.row (vertex_of c)) (s.actor i) else None))
    by_test false = good
    by_test true = changes_keep base g s i most c x good at old

-- all events on a row
pub row_keeps : (base : Base) (g : Ghost) (s : State) (i : Name) (v : ℕ) (most : Limits) (action : Act) → reach_of action ≡ reach.Row v → Good base g s
    → Good base g (after_row s i v (row_event most action (s.row v) (s.actor i)))
row_keeps base g s i v most (act.Look w) at good = subst (λ u. Good base g (after_row s i u (row_event most (act.Look w) (s.row u) (s.actor i)))) (row_is w v at)
    (for_keep base g s i w (λ x. looks x w (s.row w) (s.actor i)) (s.actor i).txn good (λ x e. looks_keep base g s i w x good e))
row_keeps base g s i v most (act.Put w l d p) at good = subst (λ u. Good base g (after_row s i u (row_event most (act.Put w l d p) (s.row u) (s.actor i)))) (row_is w v at)
    (for_keep base g s i w (λ x. puts most x (Put w l d p) (s.row w) (s.actor i)) (s.actor i).txn good (λ x e. puts_keep base g s i most (Put w l d p) x good e refl))
row_keeps base g s i v most (act.Del w l d) at good = subst (λ u. Good base g (after_row s i u (row_event most (act.Del w l d) (s.row u) (s.actor i)))) (row_is w v at)
    (for_keep base g s i w (λ x. changes most x (Del w l d) (s.row w) (s.actor i)) (s.actor i).txn good (λ x e. changes_keep base g s i most (Del w l d) x good e refl))
row_keeps base g s i v most (act.Set w p) at good = subst (λ u. Good base g (after_row s i u (row_event most (act.Set w p) (s.row u) (s.actor i)))) (row_is w v at)
    (for_keep base g s i w (λ x. changes most x (Set w p) (s.row w) (s.actor i)) (s.actor i).txn good (λ x e. changes_keep base g s i most (Set w p) x good e refl))
row_keeps base g s i v most (act.Drop w) at good = subst (λ u. Good base g (after_row s i u (row_event most (act.Drop w) (s.row u) (s.actor i)))) (row_is w v at)
    (for_keep base g s i w (λ x. changes most x (Drop w) (s.row w) (s.actor i)) (s.actor i).txn good (λ x e. changes_keep base g s i most (Drop w) x good e refl))
row_keeps base g s i v most (act.New w p) at good = subst (λ u. Good base g (after_row s i u (row_event most (act.New w p) (s.row u) (s.actor i)))) (row_is w v at)
    (for_keep base g s i w (λ x. news most x w p (s.row w) (s.actor i)) (s.actor i).txn good (λ x e. news_keep base g s i most w p x good e))
row_keeps base g s i v most (act.Read q) at good = for_keep base g s i v (λ x. reads x q (s.row v) (s.actor i)) (s.actor i).txn good (λ x e. reads_keep base g s i v q x good e)
row_keeps base g s i v most (act.Apply w) at good = subst (λ u. Good base g (after_row s i u (row_event most (act.Apply w) (s.row u) (s.actor i)))) (row_is w v at)
    (for_keep base g s i w (λ x. applies_at (won_epoch x.stage) x w (s.row w) (s.actor i)) (s.actor i).txn good (λ x e. applies_keep base g s i w x good e (won_epoch x.stage) refl))
row_keeps base g s i v most (act.Undo w) at good = subst (λ u. Good base g (after_row s i u (row_event most (act.Undo w) (s.row u) (s.actor i)))) (row_is w v at)
    (for_keep base g s i w (λ x. undoes x w (s.row w) (s.actor i)) (s.actor i).txn good (λ x e. undoes_keep base g s i w x good e))
row_keeps base g s i v most act.Open at good = good
row_keeps base g s i v most act.Close at good = good
row_keeps base g s i v most act.Begin at good = good
row_keeps base g s i v most act.Draw at good = good
row_keeps base g s i v most act.Enqueue at good = good
row_keeps base g s i v most act.Collect at good = good
row_keeps base g s i v most act.Publish at good = good
row_keeps base g s i v most act.Outcome at good = good
row_keeps base g s i v most act.Done at good = good
row_keeps base g s i v most act.Seen at good = good
row_keeps base g s i v most act.End at good = good
row_keeps base g s i v most act.Horizon at good = good
row_keeps base g s i v most (act.Fail f t) at good = good
row_keeps base g s i v most (act.WriteGroup m) at good = good
row_keeps base g s i v most act.Mend at good = good
