-- What a look tells, in the words of the pass's sight.
use Rattle.std.proofs.Common.{◌≡◌, ◌≢◌, ℕ, ◌≤◌, ◌<◌, Bool, true, false, cond, ◌&&◌, List, [], ◌∷◌, ◌++◌, filter, refl, sym, ap, ◌∙◌, subst, arith, ⊎_elim, inl, inr, map, Option, Some, None}
use Rattle.std.specs.Prelude.{◌==◌, nat_lt, nat_le}
use Rattle.std.specs.List.{list_any}
use Rattle.std.proofs.lemmas.Bool.{eqb-true, eq-eqb, ltb-true, cases_Bool, false≢true, or_from, or_left, and_parts, false_from_ne_true}
use Rattle.graph_model.specs.declared.graph.Base.{Base}
use Rattle.graph_model.specs.declared.record.Record.{Record}
use Rattle.graph_model.specs.Records.{IsGood, changes_vertex}
use Rattle.vertex_locks.specs.declared.answer.Look.TheVariants.{Taken, Held, Conflict}
use Rattle.core_rows.specs.Rows.{lock_answer}
use Rattle.core_states.specs.declared.actor.Actor.{Actor}
use Rattle.core_states.specs.declared.transaction.Transaction.{Transaction}
use Rattle.core_states.specs.declared.transaction.Receipt.{Receipt as CoreReceipt}
use Rattle.core_states.specs.Draws.{tids_of, with_tid}
use Rattle.core_states.specs.Looks.{LooksTell, TakenTells, HeldTells, ConflictTells}
use Rattle.core_states.specs.Names.{Name}
use Rattle.core_states.specs.Numbers.{has_number}
use Rattle.core_states.specs.Records.{In as InLog}
use Rattle.core_states.specs.Transactions.{is_working}
use Rattle.core_states.specs.States.{State}
use Rattle.core_states.specs.Openings.{run_limits}
use Rattle.core_kept.specs.Bounds.{Kept}
use Rattle.core_states.specs.Laters.{Later}
use Rattle.core_states.specs.Sound.{RunsAt, InReceipts, WasChanged}
use Rattle.core_laws.proofs.Locking.{looks_tell}
use Rattle.core_laws.proofs.Histories.{epoch_low}
use Rattle.graph_workers.specs.Passes.{Pass}
use Rattle.graph_workers.proofs.Working.{last_is}
use Rattle.graph_workers.proofs.Receipted.{none_some}
use Rattle.graph_workers.proofs.Sights.{Txn, Receipt, IsFree, IsHolder, IsNewest}
use Rattle.graph_workers.proofs.Closing.{In}
use Rattle.graph_workers.proofs.Views.{among, txn_view, txn_views, sight, Tallies}
use Rattle.graph_workers.proofs.Moving.{Moved}
use Rattle.graph_workers.proofs.Lining.{Fit}

-- a transaction in a sight is one of the core
pub view_of : (o : Option Transaction) (y : Txn) → txn_views o ≡ Some y → (z : Transaction) × (o ≡ Some z) × (y ≡ txn_view z)
view_of None y e = absurd (none_some y e)
view_of (Some z) y e = (z, refl, sym (the (txn_view z) y e))
  where
    the : (a b : Txn) → Some a ≡ Some b → a ≡ b
    the a b f = (cc)

in_front : (r : Record) (xs ys : List Record) → InLog r xs → InLog r (xs ++ ys)
in_front r [] ys m = absurd m
in_front r (x ∷ xs) ys (inl e) = inl e
in_front r (x ∷ xs) ys (inr m) = inr (in_front r xs ys m)

none_known : (p : Record → Bool) (told : ℕ) (rs : List Record) → ((r : Record) → InLog r rs → p r ≡ true → ⊥) → list_any p (filter (λ r. nat_le r.epoch told) rs) ≡ false
none_known p told [] f = refl
none_known p told (r ∷ rs) f = by_told (nat_le r.epoch told) (none_known p told rs (λ q m. f q (inr m)))
  where
    by_told : (b : Bool) → list_any p (filter (λ q. nat_le q.epoch told) rs) ≡ false → list_any p (cond b (r ∷ filter (λ q. nat_le q.epoch told) rs) (filter (λ q. nat_le q.epoch told) rs)) ≡ false
    by_told true ih = or_from _ _ (false_from_ne_true (p r) (f r (inl refl))) ih
    by_told false ih = ih

none_receipt : (n : ℕ) (us : List Receipt) → ((u : Receipt) → In u us → u.txn.number ≢ n) → list_any (λ r. r.txn.number == n) us ≡ false
none_receipt n [] f = refl
none_receipt n (u ∷ us) f = or_from _ _ (false_from_ne_true (u.txn.number == n) (λ e. f u (inl refl) (eqb-true u.txn.number n e))) (none_receipt n us (λ v m. f v (inr m)))

running_tid : (a : Actor) (x : Transaction) → a.txn ≡ Some x → has_number x.tid (tids_of a) ≡ true
running_tid a x e = subst (λ o. has_number x.tid (with_tid o (map (λ r. r.tid) a.receipts)) ≡ true) (sym e) (or_left _ _ (eq-eqb x.tid x.tid refl))

module _ (base : Base) (good : IsGood base) (name : ℕ → Name) (apart : (j k : ℕ) → name j ≡ name k → j ≡ k) (p : Pass) (fit : Fit base name p) (s : ℕ) (rs : List Receipt) (ds : List ℕ) (t : Tallies name p.seen rs ds)
    (r : State) (m : Moved base name s p.seen r) (x : Transaction) (runs : RunsAt r (name s) x) where
  looks : LooksTell r
  looks = looks_tell base run_limits r m.kept

  -- a record that the pass has seen is one of the records now
  was_seen : (q : Record) → InLog q p.seen.clock.records → InLog q r.clock.records
  was_seen q among = subst (InLog q) (sym m.later.is) (in_front q p.seen.clock.records m.later.more among)

  -- another session's transaction runs now, too, and works
  still : (k : ℕ) (y : Txn) → txn_views (p.seen.actor (name k)).txn ≡ Some y → (k == s) ≡ false → (z : Transaction) × RunsAt r (name k) z × (is_working z ≡ true) × (y ≡ txn_view z)
  still k y e other =
      let v = view_of (p.seen.actor (name k)).txn y e in
      (v.0, ap (λ (a : Actor). a.txn) (m.others k other) ∙ v.1, fit.works k v.0 v.1, v.2)

  other_name : (k : ℕ) → (k == s) ≡ false → name k ≢ name s
  other_name k e same = false≢true (sym e ∙ eq-eqb k s (apart k s same))

  pub free : (v : ℕ) → is_working x ≡ true → lock_answer (r.row v) x.tid x.read ≡ Taken → IsFree (sight name p rs ds) s (txn_view x) v
  free v works lock = record {
    untouched = λ k y e other.
        let z = still k y e other in
        among v y.touched ∙ ap (λ (a : Txn). has_number v a.touched) z.3 ∙ tells.alone (name k) z.0 z.1 (other_name k other) z.2;
    current = none_known (λ q. nat_lt x.read q.epoch && changes_vertex v q) p.told p.seen.clock.records (λ q seen h.
        let parts = and_parts (nat_lt x.read q.epoch) (changes_vertex v q) h in
        let late = ltb-true x.read q.epoch parts.0 in
        let low = tells.current q (was_seen q seen) parts.1 in
        omega (arith, late, low));
  }
    where
      tells : TakenTells r (name s) x v
      tells = looks.taken (name s) x v runs works lock

  pub holder : (new : Pass) (us : List Receipt) (vs : List ℕ) (v u : ℕ) → RunsAt p.seen (name s) x → Later r.clock new.seen.clock → (r.actor (name s)).receipts ≡ (p.seen.actor (name s)).receipts → lock_answer (r.row v) x.tid x.read ≡ Held u →
      IsHolder (sight name p rs ds) (sight name new us vs) (txn_view x) v u
  holder new us vs v u was later same lock = record {
    other = tells.other;
    below = (let a = kept_tid.2 in let b = later.next_tid in let c = tells.run.number in omega (arith, a, b, c));
    running = none_receipt u rs (λ w in_rs e.
        let b = t.back w in_rs in
        tells.no_receipt (name b.0) b.1 (receipts_now b.0 b.1 b.2) (sym b.3.number ∙ e));
    beside = λ k y e number. ⊎_elim
        (λ (mine : (k == s) ≡ true). absurd (tells.other (sym number ∙ own k y (eqb-true k s mine) e)))
        (λ (other : (k == s) ≡ false).
        let z = still k y e other in
        let tid : z.0.tid ≡ u = ap (λ (a : Txn). a.number) (sym z.3) ∙ number in
        let at = m.kept.2.kept (name k) z.0.tid (running_tid (r.actor (name k)) z.0 z.1) in
        let there : tells.run.actor ≡ name k = sym kept_tid.0 ∙ ap m.kept.2.drawer (tells.run.number ∙ sym tid) ∙ at.0 in
        let one : tells.run.txn ≡ z.0 = the tells.run.txn z.0 (sym tells.run.runs ∙ ap (λ j. (r.actor j).txn) there ∙ z.1) in
        among v y.touched ∙ ap (λ (a : Txn). has_number v a.touched) z.3 ∙ ap (λ (a : Transaction). has_number v a.touched) (sym one) ∙ tells.touched)
        (cases_Bool (k == s));
  }
    where
      tells : HeldTells r x v u
      tells = looks.held (name s) x v u runs lock

      the : (a b : Transaction) → Some a ≡ Some b → a ≡ b
      the a b e = (cc)

      kept_tid : (m.kept.2.drawer tells.run.txn.tid ≡ tells.run.actor) × (base.next_tid ≤ tells.run.txn.tid) × (tells.run.txn.tid < r.clock.next_tid)
      kept_tid = m.kept.2.kept tells.run.actor tells.run.txn.tid (running_tid (r.actor tells.run.actor) tells.run.txn tells.run.runs)

      receipts_now : (k : ℕ) (c : CoreReceipt) → InReceipts c (p.seen.actor (name k)).receipts → InReceipts c (r.actor (name k)).receipts
      receipts_now k c among = ⊎_elim
          (λ (e : (k == s) ≡ true). subst (λ j. InReceipts c (r.actor (name j)).receipts) (sym (eqb-true k s e)) (subst (InReceipts c) (sym same) (subst (λ j. InReceipts c (p.seen.actor (name j)).receipts) (eqb-true k s e) among)))
          (λ (e : (k == s) ≡ false). subst (InReceipts c) (ap (λ (a : Actor). a.receipts) (sym (m.others k e))) among)
          (cases_Bool (k == s))

      -- the session's own transaction has the number of x
      own : (k : ℕ) (y : Txn) → k ≡ s → txn_views (p.seen.actor (name k)).txn ≡ Some y → y.number ≡ x.tid
      own k y is e =
          let z = view_of (p.seen.actor (name k)).txn y e in
          ap (λ (a : Txn). a.number) z.2 ∙ ap (λ (a : Transaction). a.tid) (the z.0 x (sym z.1 ∙ ap (λ j. (p.seen.actor (name j)).txn) is ∙ was))

  pub newest : (new : Pass) (us : List Receipt) (vs : List ℕ) (v e : ℕ) → Kept base run_limits new.seen → WasChanged new.seen v e → lock_answer (r.row v) x.tid x.read ≡ Conflict e → IsNewest base (sight name p rs ds) (sight name new us vs) s (txn_view x) v e
  newest new us vs v e kept was lock = record {
    later = tells.late;
    untouched = λ k y h other.
        let z = still k y h other in
        among v y.touched ∙ ap (λ (a : Txn). has_number v a.touched) z.3 ∙ tells.free (name k) z.0 z.1 z.2;
    newest = none_known (λ q. nat_lt e q.epoch && changes_vertex v q) p.told p.seen.clock.records (λ q seen h.
        let parts = and_parts (nat_lt e q.epoch) (changes_vertex v q) h in
        let late = ltb-true e q.epoch parts.0 in
        let low = tells.newest q (was_seen q seen) parts.1 in
        omega (arith, late, low));
    met = (let a = epoch_low base kept.0.0 new.seen was.record_is kept.0.1 was.among in let b = was.epoch in let c = last_is base run_limits new.seen kept in omega (arith, a, b, c));
  }
    where
      tells : ConflictTells r x v e
      tells = looks.conflict (name s) x v e runs lock
