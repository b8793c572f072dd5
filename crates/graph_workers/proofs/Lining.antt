-- From what a line's session did to what the line did to the sight of its pass.
use Rattle.std.proofs.Common.{◌≡◌, ℕ, ◌≤◌, true, false, List, [], ◌∷◌, ◌++◌, refl, sym, ap, ◌∙◌, subst, arith, ⊎_elim, inl, inr, ◌⊎◌, map, Option, Some, None}
use Rattle.std.specs.Prelude.{◌==◌, IsTrue}
use Rattle.std.specs.List.{list_any}
use Rattle.std.proofs.lemmas.Bool.{eqb-true, eq-eqb, cases_Bool, both_ways, or_cases, or_left, or_right, or_from, and_parts, and_from, not-true, not_from_false, false_from_ne_true}
use Rattle.graph_model.specs.declared.graph.Base.{Base}
use Rattle.graph_model.specs.Records.{all_differ}
use Rattle.request_text.specs.declared.request.Request.{Request}
use Rattle.request_text.specs.declared.request.Request.TheVariants as request
use Rattle.request_text.specs.declared.reply.Reply.{Reply}
use Rattle.request_text.specs.declared.reply.Reply.TheVariants as reply
use Rattle.graph_legal.specs.Traces.{is_among}
use Rattle.graph_legal.specs.Kinds.{is_in_kind}
use Rattle.core_states.specs.declared.actor.Actor.{Actor}
use Rattle.core_states.specs.declared.transaction.Transaction.{Transaction}
use Rattle.core_states.specs.declared.transaction.Receipt.{Receipt as CoreReceipt}
use Rattle.core_states.specs.Draws.{with_tid, tids_of}
use Rattle.core_states.specs.Names.{Name}
use Rattle.core_states.specs.Numbers.{has_number}
use Rattle.core_states.specs.Transactions.{is_working}
use Rattle.core_states.specs.Openings.{run_limits}
use Rattle.core_kept.specs.Bounds.{Kept}
use Rattle.core_states.specs.Sound.{RunsAt, InReceipts}
use Rattle.graph_workers.specs.Passes.{Pass}
use Rattle.graph_workers.proofs.Working.{last_is}
use Rattle.graph_workers.proofs.Sights.{Txn, Receipt, TxnAfter, receipt_told, NumberDid, DrawnDid, Says, LineDid, as_traces}
use Rattle.graph_workers.proofs.Closing.{In}
use Rattle.graph_workers.proofs.Leading.{in_right}
use Rattle.graph_workers.proofs.Views.{txn_views, sight, Alike, Tallies, grows}
use Rattle.graph_workers.proofs.Moving.{Moved}

-- What holds of a pass between two lines.
pub record Fit (base : Base) (name : ℕ → Name) (p : Pass) : Type 0 where
  pub kept : Kept base run_limits p.seen
  pub low : base.epoch ≤ p.told
  pub visible : p.told ≤ p.seen.clock.visible
  -- a transaction that its sessions run works, and its read epoch was told
  pub works : (k : ℕ) (x : Transaction) → RunsAt p.seen (name k) x → is_working x ≡ true
  pub reads : (k : ℕ) (x : Transaction) → RunsAt p.seen (name k) x → x.read ≤ p.told

-- what a line leaves of the receipts of its session
abbrev pub ReceiptsDid : Reply → Option Txn → List CoreReceipt → List CoreReceipt → Type 0
ReceiptsDid r o old new =
    ((new ≡ old) × (receipt_told r o ≡ []))
    ⊎ ((c : CoreReceipt) × (u : Receipt) × (new ≡ c ∷ old) × (receipt_told r o ≡ u ∷ []) × Alike c u)

-- What a line's session did: its actor was a, and is b.
pub record SessionDid (q : Request) (r : Reply) (told : ℕ) (a b : Actor) : Type 0 where
  pub session : TxnAfter q r (txn_views a.txn) (txn_views b.txn)
  pub works : (x : Transaction) → b.txn ≡ Some x → is_working x ≡ true
  pub reads : (x : Transaction) → b.txn ≡ Some x → x.read ≤ told
  pub receipts : ReceiptsDid r (txn_views a.txn) a.receipts b.receipts
  pub drew : DrawnDid q r a.drew b.drew

-- ---- drawn numbers

record DrawnList (q : Request) (r : Reply) (old new ds : List ℕ) : Type 0 where
  list : List ℕ
  did : DrawnDid q r ds list
  how : ((new ≡ old) × (list ≡ ds)) ⊎ ((v : ℕ) × (new ≡ v ∷ old) × (list ≡ v ∷ ds))

drawn_list : (q : Request) (r : Reply) (old new ds : List ℕ) → DrawnDid q r old new → DrawnList q r old new ds
drawn_list (request.Vertex z) (reply.Vertex v) old new ds h = record { list = v ∷ ds; did = refl; how = inr (v, h, refl) }
drawn_list (request.Vertex z) reply.NoMemory old new ds (inl h) = record { list = ds; did = inl refl; how = inl (h, refl) }
drawn_list (request.Vertex z) reply.NoMemory old new ds (inr h) = record { list = h.0 ∷ ds; did = inr (h.0, refl); how = inr (h.0, h.1, refl) }
drawn_list (request.Vertex z) r old new ds h = record { list = ds; did = refl; how = inl (h, refl) }
drawn_list q r old new ds h = record { list = ds; did = refl; how = inl (h, refl) }

-- ---- the numbers of receipts

-- no two receipts are of one transaction
abbrev pub Differ : List Receipt → Type 0
Differ rs = all_differ (map (λ u. u.txn.number) rs) ≡ true

-- a number that no receipt has
none_has : (t : ℕ) (rs : List Receipt) → ((u : Receipt) → In u rs → u.txn.number ≡ t → ⊥) → list_any (λ y. y == t) (map (λ u. u.txn.number) rs) ≡ false
none_has t [] f = refl
none_has t (u ∷ rs) f = or_from _ _ (false_from_ne_true (u.txn.number == t) (λ e. f u (inl refl) (eqb-true u.txn.number t e))) (none_has t rs (λ v m. f v (inr m)))

core_has : (r : CoreReceipt) (us : List CoreReceipt) → InReceipts r us → list_any (λ y. y == r.tid) (map (λ (u : CoreReceipt). u.tid) us) ≡ true
core_has r [] m = absurd m
core_has r (u ∷ us) (inl e) = or_left _ _ (eq-eqb u.tid r.tid (ap (λ (x : CoreReceipt). x.tid) (sym e)))
core_has r (u ∷ us) (inr m) = or_right (u.tid == r.tid) _ (core_has r us m)

among_tids : (r : CoreReceipt) (us : List CoreReceipt) → InReceipts r us → has_number r.tid (map (λ (u : CoreReceipt). u.tid) us) ≡ true
among_tids r [] m = absurd m
among_tids r (u ∷ us) (inl e) = or_left _ _ (eq-eqb u.tid r.tid (ap (λ (x : CoreReceipt). x.tid) (sym e)))
among_tids r (u ∷ us) (inr m) = or_right (u.tid == r.tid) _ (among_tids r us m)

kept_tid : (a : Actor) (r : CoreReceipt) → InReceipts r a.receipts → has_number r.tid (tids_of a) ≡ true
kept_tid a r m = by_txn a.txn
  where
    by_txn : (o : Option Transaction) → has_number r.tid (with_tid o (map (λ (u : CoreReceipt). u.tid) a.receipts)) ≡ true
    by_txn None = among_tids r a.receipts m
    by_txn (Some x) = or_right (x.tid == r.tid) _ (among_tids r a.receipts m)

own_differ : (a : Actor) → all_differ (tids_of a) ≡ true → all_differ (map (λ (u : CoreReceipt). u.tid) a.receipts) ≡ true
own_differ a h = by_txn a.txn h
  where
    by_txn : (o : Option Transaction) → all_differ (with_tid o (map (λ (u : CoreReceipt). u.tid) a.receipts)) ≡ true → all_differ (map (λ (u : CoreReceipt). u.tid) a.receipts) ≡ true
    by_txn None g = g
    by_txn (Some x) g = (and_parts _ _ g).1

-- ---- the line

-- What a line did to the sight of its pass, and what holds of the pass after it.
pub record LineOut (base : Base) (name : ℕ → Name) (p : Pass) (rs : List Receipt) (ds : List ℕ) (s : ℕ) (q : Request) (r : Reply) (new : Pass) : Type 0 where
  pub receipts : List Receipt
  pub drawn : List ℕ
  pub did : LineDid base (sight name p rs ds) s q r (sight name new receipts drawn)
  pub fit : Fit base name new
  pub tallies : Tallies name new.seen receipts drawn
  pub differ : Differ rs → Differ receipts

module _ (base : Base) (name : ℕ → Name) (p new : Pass) (s : ℕ) (q : Request) (r : Reply) (rs : List Receipt) (ds : List ℕ) (fit : Fit base name p) (t : Tallies name p.seen rs ds)
    (m : Moved base name s p.seen new.seen) (rises : p.told ≤ new.told) (high : new.told ≤ new.seen.clock.visible)
    (d : SessionDid q r new.told (p.seen.actor (name s)) (new.seen.actor (name s))) where
  abbrev told : List Receipt
  told = receipt_told r (txn_views (p.seen.actor (name s)).txn)

  list : DrawnList q r (p.seen.actor (name s)).drew (new.seen.actor (name s)).drew ds
  list = drawn_list q r (p.seen.actor (name s)).drew (new.seen.actor (name s)).drew ds d.drew

  -- what holds of the session's actor and of all others
  at_each : (P : Actor → Type 0) (k : ℕ) → ((k ≡ s) → P (new.seen.actor (name s))) → ((k == s) ≡ false → P (p.seen.actor (name k))) → P (new.seen.actor (name k))
  at_each P k here there = ⊎_elim
      (λ (e : (k == s) ≡ true). subst (λ j. P (new.seen.actor (name j))) (sym (eqb-true k s e)) (here (eqb-true k s e)))
      (λ (e : (k == s) ≡ false). subst P (sym (m.others k e)) (there e))
      (cases_Bool (k == s))

  came_here : (c : CoreReceipt) → InReceipts c (new.seen.actor (name s)).receipts → (u : Receipt) × In u (told ++ rs) × Alike c u
  came_here c among = ⊎_elim
      (λ (old : ((new.seen.actor (name s)).receipts ≡ (p.seen.actor (name s)).receipts) × (told ≡ [])).
      let f = t.came s c (subst (InReceipts c) old.0 among) in (f.0, in_right f.0 told rs f.1, f.2))
      (λ (one : (c : CoreReceipt) × (u : Receipt) × ((new.seen.actor (name s)).receipts ≡ c ∷ (p.seen.actor (name s)).receipts) × (told ≡ u ∷ []) × Alike c u). ⊎_elim
      (λ (is : c ≡ one.0). (one.1, subst (λ us. In one.1 (us ++ rs)) (sym one.3) (inl refl), subst (λ z. Alike z one.1) (sym is) one.4))
      (λ (was : InReceipts c (p.seen.actor (name s)).receipts). let f = t.came s c was in (f.0, in_right f.0 told rs f.1, f.2))
      (subst (InReceipts c) one.2 among))
      d.receipts

  back_from : (u : Receipt) → In u rs → (k : ℕ) × (c : CoreReceipt) × InReceipts c (new.seen.actor (name k)).receipts × Alike c u
  back_from u among =
      let f = t.back u among in (
        f.0,
        f.1,
        at_each (λ a. InReceipts f.1 a.receipts) f.0
            (λ e.
            let was : InReceipts f.1 (p.seen.actor (name s)).receipts = subst (λ j. InReceipts f.1 (p.seen.actor (name j)).receipts) e f.2 in
            ⊎_elim
            (λ (old : ((new.seen.actor (name s)).receipts ≡ (p.seen.actor (name s)).receipts) × (told ≡ [])). subst (InReceipts f.1) (sym old.0) was)
            (λ (one : (c : CoreReceipt) × (v : Receipt) × ((new.seen.actor (name s)).receipts ≡ c ∷ (p.seen.actor (name s)).receipts) × (told ≡ v ∷ []) × Alike c v). subst (InReceipts f.1) (sym one.2) (inr was))
            d.receipts)
            (λ e. f.2),
        f.3,
      )

  back_to : (u : Receipt) → In u (told ++ rs) → (k : ℕ) × (c : CoreReceipt) × InReceipts c (new.seen.actor (name k)).receipts × Alike c u
  back_to u among = ⊎_elim
      (λ (old : ((new.seen.actor (name s)).receipts ≡ (p.seen.actor (name s)).receipts) × (told ≡ [])). back_from u (subst (λ us. In u (us ++ rs)) old.1 among))
      (λ (one : (c : CoreReceipt) × (v : Receipt) × ((new.seen.actor (name s)).receipts ≡ c ∷ (p.seen.actor (name s)).receipts) × (told ≡ v ∷ []) × Alike c v). ⊎_elim
      (λ (is : u ≡ one.1). (s, one.0, subst (InReceipts one.0) (sym one.2) (inl refl), subst (Alike one.0) (sym is) one.4))
      (λ (was : In u rs). back_from u was)
      (subst (λ us. In u (us ++ rs)) one.3 among))
      d.receipts

  -- the new receipt is of a transaction that has none
  differ_all : Differ rs → Differ (told ++ rs)
  differ_all h = ⊎_elim
      (λ (old : ((new.seen.actor (name s)).receipts ≡ (p.seen.actor (name s)).receipts) × (told ≡ [])). subst (λ us. Differ (us ++ rs)) (sym old.1) h)
      (λ (one : (c : CoreReceipt) × (v : Receipt) × ((new.seen.actor (name s)).receipts ≡ c ∷ (p.seen.actor (name s)).receipts) × (told ≡ v ∷ []) × Alike c v).
      let mine : all_differ (map (λ (u : CoreReceipt). u.tid) (one.0 ∷ (p.seen.actor (name s)).receipts)) ≡ true =
      subst (λ us. all_differ (map (λ (u : CoreReceipt). u.tid) us) ≡ true) one.2 (own_differ (new.seen.actor (name s)) (m.kept.2.once (name s))) in
      let first : list_any (λ y. y == one.0.tid) (map (λ (u : CoreReceipt). u.tid) (p.seen.actor (name s)).receipts) ≡ false = not-true _ (and_parts _ _ mine).0 in
      let here : InReceipts one.0 (new.seen.actor (name s)).receipts = subst (InReceipts one.0) (sym one.2) (inl refl) in
      subst (λ us. Differ (us ++ rs)) (sym one.3) (and_from _ _ (not_from_false _ (none_has one.1.txn.number rs (λ u among e.
      let b = t.back u among in
      let same : b.1.tid ≡ one.0.tid = sym b.3.number ∙ e ∙ one.4.number in
      let in_own : InReceipts b.1 (p.seen.actor (name s)).receipts = ⊎_elim
      (λ (f : (b.0 == s) ≡ true). subst (λ j. InReceipts b.1 (p.seen.actor (name j)).receipts) (eqb-true b.0 s f) b.2)
      (λ (f : (b.0 == s) ≡ false).
      let stays : InReceipts b.1 (new.seen.actor (name b.0)).receipts = subst (λ (a : Actor). InReceipts b.1 a.receipts) (sym (m.others b.0 f)) b.2 in
      let drew_b = (m.kept.2.kept (name b.0) b.1.tid (kept_tid (new.seen.actor (name b.0)) b.1 stays)).0 in
      let drew_c = (m.kept.2.kept (name s) one.0.tid (kept_tid (new.seen.actor (name s)) one.0 here)).0 in
      let is : name b.0 ≡ name s = sym drew_b ∙ ap m.kept.2.drawer same ∙ drew_c in
      subst (λ (i : Name). InReceipts b.1 (p.seen.actor i).receipts) is b.2)
      (cases_Bool (b.0 == s)) in
      both_ways _ first (subst (λ n. list_any (λ y. y == n) (map (λ (u : CoreReceipt). u.tid) (p.seen.actor (name s)).receipts) ≡ true) same (core_has b.1 (p.seen.actor (name s)).receipts in_own))))) h))
      d.receipts

  drew_here : (v : ℕ) → has_number v (new.seen.actor (name s)).drew ≡ true → is_among v list.list ≡ true
  drew_here v h = ⊎_elim
      (λ (old : ((new.seen.actor (name s)).drew ≡ (p.seen.actor (name s)).drew) × (list.list ≡ ds)). subst (λ xs. is_among v xs ≡ true) (sym old.1) (t.drew s v (ap (has_number v) (sym old.0) ∙ h)))
      (λ (one : (w : ℕ) × ((new.seen.actor (name s)).drew ≡ w ∷ (p.seen.actor (name s)).drew) × (list.list ≡ w ∷ ds)). subst (λ xs. is_among v xs ≡ true) (sym one.2) (⊎_elim
      (λ (is : (one.0 == v) ≡ true). or_left _ _ is)
      (λ (was : has_number v (p.seen.actor (name s)).drew ≡ true). or_right (one.0 == v) _ (t.drew s v was))
      (or_cases (one.0 == v) (has_number v (p.seen.actor (name s)).drew) (ap (has_number v) (sym one.1) ∙ h))))
      list.how

  drew_other : (k v : ℕ) → has_number v (p.seen.actor (name k)).drew ≡ true → is_among v list.list ≡ true
  drew_other k v h = ⊎_elim
      (λ (old : ((new.seen.actor (name s)).drew ≡ (p.seen.actor (name s)).drew) × (list.list ≡ ds)). subst (λ xs. is_among v xs ≡ true) (sym old.1) (t.drew k v h))
      (λ (one : (w : ℕ) × ((new.seen.actor (name s)).drew ≡ w ∷ (p.seen.actor (name s)).drew) × (list.list ≡ w ∷ ds)). subst (λ xs. is_among v xs ≡ true) (sym one.2) (or_right (one.0 == v) _ (t.drew k v h)))
      list.how

  drawn_from : (v : ℕ) → is_among v ds ≡ true → (k : ℕ) × (has_number v (new.seen.actor (name k)).drew ≡ true)
  drawn_from v h =
      let f = t.drawn v h in (
        f.0,
        at_each (λ a. has_number v a.drew ≡ true) f.0
            (λ e.
            let was : has_number v (p.seen.actor (name s)).drew ≡ true = subst (λ j. has_number v (p.seen.actor (name j)).drew ≡ true) e f.1 in
            ⊎_elim
            (λ (old : ((new.seen.actor (name s)).drew ≡ (p.seen.actor (name s)).drew) × (list.list ≡ ds)). ap (has_number v) old.0 ∙ was)
            (λ (one : (w : ℕ) × ((new.seen.actor (name s)).drew ≡ w ∷ (p.seen.actor (name s)).drew) × (list.list ≡ w ∷ ds)). ap (has_number v) one.1 ∙ or_right (one.0 == v) _ was)
            list.how)
            (λ e. f.1),
      )

  drawn_to : (v : ℕ) → is_among v list.list ≡ true → (k : ℕ) × (has_number v (new.seen.actor (name k)).drew ≡ true)
  drawn_to v h = ⊎_elim
      (λ (old : ((new.seen.actor (name s)).drew ≡ (p.seen.actor (name s)).drew) × (list.list ≡ ds)). drawn_from v (subst (λ xs. is_among v xs ≡ true) old.1 h))
      (λ (one : (w : ℕ) × ((new.seen.actor (name s)).drew ≡ w ∷ (p.seen.actor (name s)).drew) × (list.list ≡ w ∷ ds)). ⊎_elim
      (λ (is : (one.0 == v) ≡ true). (s, ap (has_number v) one.1 ∙ or_left _ _ is))
      (λ (was : is_among v ds ≡ true). drawn_from v was)
      (or_cases (one.0 == v) (is_among v ds) (subst (λ xs. is_among v xs ≡ true) one.2 h)))
      list.how

  pub line_out : IsTrue (is_in_kind (as_traces (txn_views (p.seen.actor (name s)).txn)) q r) →
      ((us : List Receipt) (vs : List ℕ) → Says base (sight name p rs ds) (sight name new us vs) s (txn_views (p.seen.actor (name s)).txn) q r) →
      ((us : List Receipt) (vs : List ℕ) → NumberDid base (sight name p rs ds) (sight name new us vs) q r) → LineOut base name p rs ds s q r new
  line_out kind says number = record {
    receipts = told ++ rs;
    drawn = list.list;
    did = record {
      kind = kind;
      says = says (told ++ rs) list.list;
      session = d.session;
      others = λ k e. ap (λ a. txn_views a.txn) (m.others k e);
      receipts = refl;
      number = number (told ++ rs) list.list;
      drawn = list.did;
      told = rises;
      visible = (let a = m.kept.0.1.visible in let b = last_is base run_limits new.seen m.kept in omega (arith, high, a, b));
      grown = grows base run_limits p.seen new.seen fit.kept m.later;
      next_tid = m.later.next_tid;
      next_vertex = m.later.next_vertex;
    };
    fit = record {
      kept = m.kept;
      low = (let a = fit.low in omega (arith, a, rises));
      visible = high;
      works = λ k x. at_each (λ a. a.txn ≡ Some x → is_working x ≡ true) k (λ e. d.works x) (λ e. fit.works k x);
      reads = λ k x. at_each (λ a. a.txn ≡ Some x → x.read ≤ new.told) k (λ e. d.reads x) (λ e runs. let a = fit.reads k x runs in omega (arith, a, rises));
    };
    tallies = record {
      came = λ k c among. at_each (λ a. InReceipts c a.receipts → (u : Receipt) × In u (told ++ rs) × Alike c u) k (λ e. came_here c)
          (λ e was. let f = t.came k c was in (f.0, in_right f.0 told rs f.1, f.2)) among;
      back = back_to;
      drew = λ k v h. at_each (λ a. has_number v a.drew ≡ true → is_among v list.list ≡ true) k (λ e. drew_here v) (λ e. drew_other k v) h;
      drawn = drawn_to;
    };
    differ = differ_all;
  }
