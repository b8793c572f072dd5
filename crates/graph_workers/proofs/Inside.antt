-- A line of a session that has a transaction: what it leaves of it.
use Rattle.std.proofs.Common.{◌≡◌, ℕ, ◌≤◌, Bool, true, false, ◌||◌, List, [], ◌∷◌, ◌++◌, length, refl, sym, ap, ◌∙◌, subst, arith, append-nil, ⊎_elim, inl, inr, ◌⊎◌, Some, None}
use Rattle.std.specs.Prelude.{◌==◌, if◌then◌else◌}
use Rattle.std.proofs.lemmas.Bool.{eqb-true, eq-eqb, false≢true, or_left, or_right, or_cases, and_parts}
use Rattle.graph_model.specs.declared.graph.Base.{Base}
use Rattle.request_text.specs.declared.request.Request.{Request}
use Rattle.request_text.specs.declared.reply.Reply.{Reply}
use Rattle.graph_legal.specs.Traces.{is_among, noted_at, taken_at, unsure_at}
use Rattle.graph_legal.specs.Kinds.{is_in_kind, is_reply_inside}
use Rattle.core_states.specs.declared.actor.Actor.{Actor}
use Rattle.core_states.specs.declared.transaction.Stage.{Stage}
use Rattle.core_states.specs.declared.transaction.Stage.TheVariants.{Open, Queued, Decided}
use Rattle.core_states.specs.declared.transaction.Transaction.{Transaction}
use Rattle.core_states.specs.declared.transaction.Receipt.{Receipt as CoreReceipt}
use Rattle.core_states.specs.Names.{Name}
use Rattle.core_states.specs.Numbers.{has_number, touch}
use Rattle.core_states.specs.Transactions.{is_open, is_working}
use Rattle.core_states.specs.Sound.{RunsAt}
use Rattle.core_calls.proofs.OnParts.{later_refl, later_log_refl}
use Rattle.graph_workers.specs.Passes.{Pass}
use Rattle.graph_workers.proofs.Sights.{Receipt, TxnAfter, TxnGrows, receipt_told, end_told, NumberDid, DrawnDid, Says, as_traces}
use Rattle.graph_workers.proofs.Views.{among, txn_view, txn_views, sight, Alike, Tallies}
use Rattle.graph_workers.proofs.Moving.{Moved}
use Rattle.graph_workers.proofs.Lining.{Fit, SessionDid, LineOut, line_out}

-- ---- what a transaction touched, after one more

touch_more : (v w : ℕ) (xs : List ℕ) → has_number v xs ≡ true → has_number v (touch w xs) ≡ true
touch_more v w xs h = by_test (has_number w xs)
  where
    by_test : (b : Bool) → has_number v (if b then xs else w ∷ xs) ≡ true
    by_test true = h
    by_test false = or_right (w == v) _ h

touch_here : (v w : ℕ) (xs : List ℕ) → w ≡ v → has_number v (touch w xs) ≡ true
touch_here v w xs e = by_test (has_number w xs) refl
  where
    by_test : (b : Bool) → has_number w xs ≡ b → has_number v (if b then xs else w ∷ xs) ≡ true
    by_test true h = ap (λ n. has_number n xs) (sym e) ∙ h
    by_test false h = or_left _ _ (eq-eqb w v e)

touch_only : (v w : ℕ) (xs : List ℕ) → has_number v (touch w xs) ≡ true → (has_number v xs ≡ true) ⊎ (w ≡ v)
touch_only v w xs = by_test (has_number w xs)
  where
    by_test : (b : Bool) → has_number v (if b then xs else w ∷ xs) ≡ true → (has_number v xs ≡ true) ⊎ (w ≡ v)
    by_test true h = inl h
    by_test false h = ⊎_elim (λ (e : (w == v) ≡ true). inr (eqb-true w v e)) (λ (e : has_number v xs ≡ true). inl e) (or_cases (w == v) (has_number v xs) h)

among_one : (v w : ℕ) → is_among v (w ∷ []) ≡ true → w ≡ v
among_one v w h = ⊎_elim (λ (e : (w == v) ≡ true). eqb-true w v e) (λ (e : false ≡ true). absurd (false≢true e)) (or_cases (w == v) false h)

one_among : (v w : ℕ) → w ≡ v → is_among v (w ∷ []) ≡ true
one_among v w e = or_left _ _ (eq-eqb w v e)

-- A line by which the transaction took w, or may have, for all that its reply tells.
pub grows_by : (q : Request) (r : Reply) (x y : Transaction) (w : ℕ) → y.tid ≡ x.tid → y.read ≡ x.read → y.own ≡ x.own ++ noted_at q r → y.touched ≡ touch w x.touched →
    ((taken_at q r ≡ w ∷ []) ⊎ ((taken_at q r ≡ []) × (unsure_at q r ≡ w ∷ []))) → TxnGrows q r (txn_view x) (txn_view y)
grows_by q r x y w tid read own touched how = record {
  number = tid;
  read = read;
  own = own;
  kept = λ v h. among v y.touched ∙ ap (has_number v) touched ∙ touch_more v w x.touched (sym (among v x.touched) ∙ h);
  took = λ v h. among v y.touched ∙ ap (has_number v) touched ∙ touch_here v w x.touched (by_taken v h);
  only = λ v h. ⊎_elim
      (λ (old : has_number v x.touched ≡ true). inl (among v x.touched ∙ old))
      (λ (here : w ≡ v). inr (by_unsure v here))
      (touch_only v w x.touched (ap (has_number v) (sym touched) ∙ sym (among v y.touched) ∙ h));
}
  where
    by_taken : (v : ℕ) → is_among v (taken_at q r) ≡ true → w ≡ v
    by_taken v h = ⊎_elim
        (λ (e : taken_at q r ≡ w ∷ []). among_one v w (ap (is_among v) (sym e) ∙ h))
        (λ (e : (taken_at q r ≡ []) × (unsure_at q r ≡ w ∷ [])). absurd (false≢true (ap (is_among v) (sym e.0) ∙ h)))
        how

    by_unsure : (v : ℕ) → w ≡ v → (is_among v (taken_at q r) || is_among v (unsure_at q r)) ≡ true
    by_unsure v here = ⊎_elim
        (λ (e : taken_at q r ≡ w ∷ []). or_left _ _ (ap (is_among v) e ∙ one_among v w here))
        (λ (e : (taken_at q r ≡ []) × (unsure_at q r ≡ w ∷ [])). or_right (is_among v (taken_at q r)) _ (ap (is_among v) e.1 ∙ one_among v w here))
        how

-- A line by which it took nothing.
pub grows_none : (q : Request) (r : Reply) (x y : Transaction) → y.tid ≡ x.tid → y.read ≡ x.read → y.own ≡ x.own → y.touched ≡ x.touched → noted_at q r ≡ [] → taken_at q r ≡ [] → TxnGrows q r (txn_view x) (txn_view y)
grows_none q r x y tid read own touched none took = record {
  number = tid;
  read = read;
  own = own ∙ sym (append-nil x.own) ∙ ap (λ cs. x.own ++ cs) (sym none);
  kept = λ v h. ap (is_among v) touched ∙ h;
  took = λ v h. absurd (false≢true (ap (is_among v) (sym took) ∙ h));
  only = λ v h. inl (ap (is_among v) (sym touched) ∙ h);
}

pub still_open : (x : Transaction) → is_working x ≡ true → x.stage ≡ Open
still_open x w = by_stage x.stage (and_parts (is_open x.stage) (length x.settled == 0) w).0
  where
    by_stage : (b : Stage) → is_open b ≡ true → b ≡ Open
    by_stage Open h = refl
    by_stage Queued h = absurd (false≢true h)
    by_stage (Decided o) h = absurd (false≢true h)

pub at_start : (base : Base) (name : ℕ → Name) (p : Pass) (s : ℕ) → Fit base name p → Moved base name s p.seen p.seen
at_start base name p s fit = record { kept = fit.kept; later = later_refl p.seen.clock; later_log = later_log_refl p.seen.log; receipts = λ i r among. among; others = λ j ne. refl }

-- ---- a line of a session with a transaction

module _ (base : Base) (name : ℕ → Name) (p new : Pass) (fit : Fit base name p) (s : ℕ) (rs : List Receipt) (ds : List ℕ) (t : Tallies name p.seen rs ds) (x : Transaction) (was : RunsAt p.seen (name s) x)
    (m : Moved base name s p.seen new.seen) (q : Request) (r : Reply) (kind : is_reply_inside q r ≡ true) where
  a : Actor
  a = p.seen.actor (name s)

  abbrev AllSay : Type 0
  AllSay = (us : List Receipt) (vs : List ℕ) → Says base (sight name p rs ds) (sight name new us vs) s (Some (txn_view x)) q r

  abbrev AllNumber : Type 0
  AllNumber = (us : List Receipt) (vs : List ℕ) → NumberDid base (sight name p rs ds) (sight name new us vs) q r

  out : p.told ≤ new.told → new.told ≤ new.seen.clock.visible → SessionDid q r new.told (p.seen.actor (name s)) (new.seen.actor (name s)) → AllSay → AllNumber → LineOut base name p rs ds s q r new
  out rises high did says number = line_out base name p new s q r rs ds fit t m rises high did
      (subst (λ o. is_in_kind (as_traces (txn_views o)) q r ≡ true) (sym was) kind)
      (λ us vs. subst (λ o. Says base (sight name p rs ds) (sight name new us vs) s (txn_views o) q r) (sym was) (says us vs)) number

  -- The transaction goes on as y.
  pub stays : new.told ≡ p.told → (y : Transaction) → (new.seen.actor (name s)).txn ≡ Some y → is_working y ≡ true → y.read ≡ x.read → (new.seen.actor (name s)).receipts ≡ (p.seen.actor (name s)).receipts →
      DrawnDid q r (p.seen.actor (name s)).drew (new.seen.actor (name s)).drew → receipt_told r (Some (txn_view x)) ≡ [] → TxnAfter q r (Some (txn_view x)) (Some (txn_view y)) → AllSay → AllNumber → LineOut base name p rs ds s q r new
  stays told y is works read receipts drew none grows says number = out (omega (arith, told)) (let b = fit.visible in let c = m.later.visible in omega (arith, told, b, c))
      (record {
        session = subst (λ o. TxnAfter q r (txn_views o) (txn_views (new.seen.actor (name s)).txn)) (sym was) (subst (λ o. TxnAfter q r (Some (txn_view x)) (txn_views o)) (sym is) grows);
        works = λ z e. subst (λ (w : Transaction). is_working w ≡ true) (the y z (sym is ∙ e)) works;
        reads = λ z e. (let same = ap (λ (w : Transaction). w.read) (the y z (sym is ∙ e)) in let b = fit.reads s x was in omega (arith, same, b, told, read));
        receipts = inl (receipts, subst (λ o. receipt_told r (txn_views o) ≡ []) (sym was) none);
        drew = drew;
      }) says number
    where
      the : (y z : Transaction) → Some y ≡ Some z → y ≡ z
      the y z e = (cc)

  -- The transaction ends with this receipt.
  pub leaves : p.told ≤ new.told → new.told ≤ new.seen.clock.visible → (c : CoreReceipt) → (new.seen.actor (name s)).txn ≡ None → (new.seen.actor (name s)).receipts ≡ c ∷ (p.seen.actor (name s)).receipts → Alike c (record { txn = txn_view x; ends = end_told r }) →
      DrawnDid q r (p.seen.actor (name s)).drew (new.seen.actor (name s)).drew → receipt_told r (Some (txn_view x)) ≡ record { txn = txn_view x; ends = end_told r } ∷ [] → TxnAfter q r (Some (txn_view x)) None → AllSay → AllNumber → LineOut base name p rs ds s q r new
  leaves rises high c idle receipts alike drew one ends says number = out rises high
      (record {
        session = subst (λ o. TxnAfter q r (txn_views o) (txn_views (new.seen.actor (name s)).txn)) (sym was) (subst (λ o. TxnAfter q r (Some (txn_view x)) (txn_views o)) (sym idle) ends);
        works = λ z e. absurd (no_txn z (sym idle ∙ e));
        reads = λ z e. absurd (no_txn z (sym idle ∙ e));
        receipts = inr (c, record { txn = txn_view x; ends = end_told r }, receipts, subst (λ o. receipt_told r (txn_views o) ≡ record { txn = txn_view x; ends = end_told r } ∷ []) (sym was) one, alike);
        drew = drew;
      }) says number
    where
      no_txn : (z : Transaction) → None ≡ Some z → ⊥
      no_txn z e = (cc)
