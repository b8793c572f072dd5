-- The run of all workers, in the words of the law on replies.
use Rattle.std.proofs.Common.{◌≡◌, ℕ, ◌≤◌, Bool, true, false, cond, List, [], ◌∷◌, ◌++◌, length, refl, sym, ap, ◌∙◌, subst, arith, ⊎_elim, inl, inr, ◌⊎◌, Option, Some, None}
use Rattle.std.specs.Prelude.{◌==◌, ◌&&◌}
use Rattle.std.proofs.lemmas.Bool.{cases_Bool, false≢true, or_cases, eqb-true, eq-eqb, and_from}
use Rattle.graph_model.specs.declared.graph.Base.{Base}
use Rattle.graph_model.specs.Records.{IsGood}
use Rattle.request_text.specs.declared.reply.Reply.{Reply}
use Rattle.graph_legal.specs.Lines.{Phase, Replied, asked_from, history}
use Rattle.graph_legal.specs.Legal.{Legal}
use Rattle.core_states.specs.declared.transaction.Transaction.{Transaction}
use Rattle.core_states.specs.declared.transaction.Receipt.{Receipt as CoreReceipt}
use Rattle.core_states.specs.LogParts.{Found}
use Rattle.core_states.specs.Names.{Name}
use Rattle.core_states.specs.Numbers.{has_number}
use Rattle.core_states.specs.Transactions.{is_working, receipt_of, end_of}
use Rattle.core_states.specs.Laters.{Later, ReceiptsStay}
use Rattle.core_kept.specs.Bounds.{Kept}
use Rattle.core_states.specs.Ends.{Idle}
use Rattle.core_states.specs.declared.actor.Actor.{Actor}
use Rattle.core_states.specs.declared.event.Act.TheVariants as act
use Rattle.core_states.specs.declared.event.CoreAnswer.TheVariants as answer
use Rattle.core_states.specs.States.{State}
use Rattle.core_states.specs.Openings.{run_limits}
use Rattle.core_states.specs.Sound.{RunsAt, InReceipts}
use Rattle.graph_workers.specs.Passes.{Pass, Served, Starts, WoundUp, SessionCloses, AllClose, own_lines, AllOpen}
use Rattle.graph_workers.specs.Workers.{IsUnused, AllRan}
use Rattle.graph_workers.proofs.Working.{last_is}
use Rattle.graph_workers.proofs.Receipted.{none_some}
use Rattle.graph_workers.proofs.Sights.{Txn, Receipt, Without, Pass as Sight}
use Rattle.graph_workers.proofs.Sights as sights
use Rattle.graph_workers.proofs.Closing.{In}
use Rattle.graph_workers.proofs.Closing as closing
use Rattle.graph_workers.proofs.Leading.{in_right}
use Rattle.graph_workers.proofs.Views.{txn_view, txn_views, sight, EndAlike, Alike, Tallies, sees}
use Rattle.graph_workers.proofs.Lining.{Fit, Differ}
use Rattle.graph_workers.proofs.Ended.{NotEnded, NoneEnded, not_before, line_ended}
use Rattle.core_calls.proofs.OnParts.{later_more}
use Rattle.core_calls.specs.Events.{Told, Did}
use Rattle.core_calls.specs.Calls.{Closes}
use Rattle.graph_workers.proofs.Events.{opened, closed}
use Rattle.graph_workers.proofs.Moving.{Moved, moved, did_first}
use Rattle.graph_workers.proofs.Running.{given_to}
use Rattle.graph_workers.proofs.Inside.{still_open}
use Rattle.graph_workers.proofs.Requests.{lost}
use Rattle.graph_workers.proofs.Looking.{view_of}
use Rattle.graph_workers.proofs.Outside.{ran_line}
use Rattle.graph_workers.proofs.CloseFollows.{closes}
use Rattle.graph_workers.specs.Lines.{Seated, LinesLegal}
use Rattle.graph_workers.proofs.Law.{seated-legal, legal_of, scripts_seated, seat_from}

-- ---- the start

-- what a session's actor has done: nothing
record IsNew (a : Actor) : Type 0 where
  txn : a.txn ≡ None
  receipts : a.receipts ≡ []
  drew : a.drew ≡ []

-- What holds of a pass that starts.
pub record HasStarted (base : Base) (name : ℕ → Name) (p : Pass) : Type 0 where
  kept : Kept base run_limits p.seen
  idle : (k : ℕ) → (p.seen.actor (name k)).txn ≡ None
  receipts : (k : ℕ) → (p.seen.actor (name k)).receipts ≡ []
  drew : (k : ℕ) → (p.seen.actor (name k)).drew ≡ []
  low : base.epoch ≤ p.told
  visible : p.told ≤ p.seen.clock.visible

record AllNew (base : Base) (name : ℕ → Name) (s t : State) : Type 0 where
  kept : Kept base run_limits t
  later : Later s.clock t.clock
  new : (k : ℕ) → IsNew (t.actor (name k))

all_open : (base : Base) (name : ℕ → Name) → ((j k : ℕ) → name j ≡ name k → j ≡ k) → (ks : List ℕ) (s t : State) → ((k : ℕ) → IsNew (s.actor (name k))) → AllOpen base name ks s t → AllNew base name s t
all_open base name apart [] s t new o = record { kept = o.kept; later = o.later; new = λ k. subst IsNew (sym (o.same k)) (new k) }
all_open base name apart (k ∷ ks) s t new o =
    let now = o.0 in
    let m = moved base name apart k o.1 s now o.3 in
    let f = did_first base name apart k act.Open answer.Done [] o.1 s now o.2 o.3 in
    let l = opened f.0 (name k) f.2 in
    let here : IsNew (now.actor (name k)) = record {
      txn = ap (λ (b : Actor). b.txn) (f.3.same k ∙ l.actor) ∙ l.tells.txn ∙ ap (λ (b : Actor). b.txn) (f.1.same k) ∙ (new k).txn;
      receipts = ap (λ (b : Actor). b.receipts) (f.3.same k ∙ l.actor) ∙ l.tells.receipts ∙ ap (λ (b : Actor). b.receipts) (f.1.same k) ∙ (new k).receipts;
      drew = ap (λ (b : Actor). b.drew) (f.3.same k ∙ l.actor) ∙ l.tells.drew ∙ ap (λ (b : Actor). b.drew) (f.1.same k) ∙ (new k).drew;
    } in
    let rest = all_open base name apart ks now t (λ j. ⊎_elim
    (λ (e : (j == k) ≡ true). subst (λ i. IsNew (now.actor (name i))) (sym (eqb-true j k e)) here)
    (λ (e : (j == k) ≡ false). subst IsNew (sym (m.others j e)) (new j))
    (cases_Bool (j == k))) o.4 in
    record { kept = rest.kept; later = later_more s.clock now.clock t.clock m.later rest.later; new = rest.new }

has_started : (base : Base) (name : ℕ → Name) → ((j k : ℕ) → name j ≡ name k → j ≡ k) → (p : Pass) → Starts base name p → HasStarted base name p
has_started base name apart p h =
    let all = all_open base name apart h.sessions h.before p.seen (λ k. subst IsNew (sym (h.fresh k)) (record { txn = refl; receipts = refl; drew = refl })) h.opened in
    record {
      kept = all.kept;
      idle = λ k. (all.new k).txn;
      receipts = λ k. (all.new k).receipts;
      drew = λ k. (all.new k).drew;
      low = h.low;
      visible = (let a = h.visible in let b = all.later.visible in omega (arith, a, b));
    }

starts_fit : (base : Base) (name : ℕ → Name) (p : Pass) → HasStarted base name p → Fit base name p
starts_fit base name p h = record {
  kept = h.kept;
  low = h.low;
  visible = h.visible;
  works = λ k x runs. absurd (none_some x (sym (h.idle k) ∙ runs));
  reads = λ k x runs. absurd (none_some x (sym (h.idle k) ∙ runs));
}

starts_tallies : (base : Base) (name : ℕ → Name) (p : Pass) → HasStarted base name p → Tallies name p.seen [] []
starts_tallies base name p h = record {
  came = λ k r m. absurd (subst (InReceipts r) (h.receipts k) m);
  back = λ u m. absurd m;
  drew = λ k v m. absurd (false≢true (ap (has_number v) (sym (h.drew k)) ∙ m));
  drawn = λ v m. absurd (false≢true m);
}

pub starts_sight : (base : Base) (name : ℕ → Name) (p : Pass) → HasStarted base name p → closing.Starts base (sight name p [] [])
starts_sight base name p h = record {
  idle = λ k. ap txn_views (h.idle k);
  receipts = refl;
  drawn = refl;
  low = h.low;
  visible = (let a = h.visible in let b = h.kept.0.1.visible in let c = last_is base run_limits p.seen h.kept in omega (arith, a, b, c));
  next_tid = h.kept.2.range;
  next_vertex = h.kept.3.range;
}

-- ---- the lines

-- What a worker's lines did to the sight of its pass.
pub record ServedOut (base : Base) (name : ℕ → Name) (first : Pass) (lines : List Replied) (q : Pass) : Type 0 where
  pub receipts : List Receipt
  pub drawn : List ℕ
  pub did : sights.Served base (sight name first [] []) lines (sight name q receipts drawn)
  pub fit : Fit base name q
  pub tallies : Tallies name q.seen receipts drawn
  pub differ : Differ receipts
  pub stay : ReceiptsStay first.seen q.seen
  pub held : NoneEnded first.seen lines

served_out : (base : Base) → IsGood base → (name : ℕ → Name) → ((j k : ℕ) → name j ≡ name k → j ≡ k) → (first : Pass) → HasStarted base name first → (lines : List Replied) (q : Pass) → Served base name first lines q → ServedOut base name first lines q
served_out base good name apart first h [] q s = subst (λ z. ServedOut base name first [] z) (sym s)
    (record { receipts = []; drawn = []; did = refl; fit = starts_fit base name first h; tallies = starts_tallies base name first h; differ = refl; stay = λ i r m. m; held = tt })
served_out base good name apart first h (a ∷ above) q s =
    let o = served_out base good name apart first h above s.0 s.1 in
    let l = ran_line base good name apart s.0 q o.fit a.session o.receipts o.drawn o.tallies a.request a.reply s.2 in
    let e = line_ended base name apart a.session s.0 q a.request a.reply o.fit.kept s.2 in
    record { receipts = l.receipts; drawn = l.drawn; stay = λ i r m. e.0 i r (o.stay i r m); held = (not_before first.seen s.0.seen a.reply o.stay e.1, o.held); did = (sight name s.0 o.receipts o.drawn, o.did, l.did); fit = l.fit; tallies = l.tallies; differ = l.differ o.differ }

-- what the replies told of epochs is visible
pub told_visible : (base : Base) (name : ℕ → Name) (first : Pass) (lines : List Replied) (last : Pass) → IsGood base → ((j k : ℕ) → name j ≡ name k → j ≡ k) → Starts base name first → Served base name first lines last → last.told ≤ last.seen.clock.visible
told_visible base name first lines last good apart starts served = (served_out base good name apart first (has_started base name apart first starts) lines last served).fit.visible

-- ---- the sessions close

abbrev LeftBy : Option Transaction → Actor → Actor → Type 0
LeftBy None a b = b.receipts ≡ a.receipts
LeftBy (Some x) a b = (c : CoreReceipt) × (b.receipts ≡ c ∷ a.receipts) × Alike c (record { txn = txn_view x; ends = Without })

-- An actor was left: its transaction, where it had one, has a receipt.
record IsLeft (a b : Actor) : Type 0 where
  idle : b.txn ≡ None
  receipts : LeftBy a.txn a b
  drew : b.drew ≡ a.drew

-- what became of an actor: it is as it was, or it was left
abbrev Went : Actor → Actor → Type 0
Went a b = (b ≡ a) ⊎ IsLeft a b

left_more : (a b c : Actor) → IsLeft a b → IsLeft b c → IsLeft a c
left_more a b c f g = record { idle = g.idle; receipts = by_txn a.txn f.receipts; drew = g.drew ∙ f.drew }
  where
    same : c.receipts ≡ b.receipts
    same = subst (λ o. LeftBy o b c) f.idle g.receipts

    by_txn : (o : Option Transaction) → LeftBy o a b → LeftBy o a c
    by_txn None l = same ∙ l
    by_txn (Some x) l = (l.0, same ∙ l.1, l.2)

went_more : (a b c : Actor) → Went a b → Went b c → Went a c
went_more a b c (inl e) g = subst (λ z. Went z c) e g
went_more a b c (inr f) (inl e) = inr (subst (IsLeft a) (sym e) f)
went_more a b c (inr f) (inr g) = inr (left_more a b c f g)

module _ (base : Base) (name : ℕ → Name) (apart : (j k : ℕ) → name j ≡ name k → j ≡ k) where
  -- a session that works is closed
  closes_now : (k : ℕ) (s t : State) (es : List Told) → (s.actor (name k)).txn ≡ None → Closes es → Did base run_limits name (name k) es s t → IsLeft (s.actor (name k)) (t.actor (name k))
  closes_now k s t es none once d =
      let f = did_first base name apart k act.Close answer.Done [] es s t once d in
      let l = closed f.0 (name k) (ap (λ (b : Actor). b.txn) (f.1.same k) ∙ none) f.2 in
      record {
        idle = ap (λ (b : Actor). b.txn) (f.3.same k ∙ l.actor) ∙ l.tells.txn ∙ ap (λ (b : Actor). b.txn) (f.1.same k) ∙ none;
        receipts = subst (λ o. LeftBy o (s.actor (name k)) (t.actor (name k))) (sym none) (ap (λ (b : Actor). b.receipts) (f.3.same k ∙ l.actor) ∙ l.tells.receipts ∙ ap (λ (b : Actor). b.receipts) (f.1.same k));
        drew = ap (λ (b : Actor). b.drew) (f.3.same k ∙ l.actor) ∙ l.tells.drew ∙ ap (λ (b : Actor). b.drew) (f.1.same k);
      }

  session_left : (k : ℕ) (s t : State) (es : List Told) (o : Option Transaction) → (s.actor (name k)).txn ≡ o → ((x : Transaction) → o ≡ Some x → is_working x ≡ true) → SessionCloses o es → Did base run_limits name (name k) es s t → IsLeft (s.actor (name k)) (t.actor (name k))
  session_left k s t es None e works c d = closes_now k s t es e c d
  session_left k s t es (Some x) e works c d =
      let o = given_to base name apart k Closes es x s t e c d in
      let g = o.given in
      let l = closes_now k o.state t o.events g.idle o.rest o.did in
      let one = receipt_of g.txn (end_of g.txn.stage (s.actor (name k)).looked) in
      record {
        idle = l.idle;
        receipts = subst (λ z. LeftBy z (s.actor (name k)) (t.actor (name k))) (sym e) (
          one,
          subst (λ z. LeftBy z (o.state.actor (name k)) (t.actor (name k))) g.idle l.receipts ∙ g.receipts,
          record {
            number = sym g.same.tid;
            read = sym g.same.read;
            own = sym g.same.own;
            touched = sym g.same.touched;
            ends = subst (λ z. EndAlike (end_of z (s.actor (name k)).looked) Without) (sym (g.stage ∙ still_open x (works x refl))) (lost (s.actor (name k)).looked);
          },
        );
        drew = l.drew ∙ g.drew;
      }

  -- What closing sessions leaves.
  record AllWent (ks : List ℕ) (s t : State) : Type 0 where
    kept : Kept base run_limits t
    later : Later s.clock t.clock
    went : (k : ℕ) → Went (s.actor (name k)) (t.actor (name k))
    left : (k : ℕ) → has_number k ks ≡ true → IsLeft (s.actor (name k)) (t.actor (name k))

  all_went : (ks : List ℕ) (s t : State) → ((k : ℕ) (x : Transaction) → RunsAt s (name k) x → is_working x ≡ true) → AllClose base name ks s t → AllWent ks s t
  all_went [] s t works c = record { kept = c.kept; later = c.later; went = λ k. inl (c.same k); left = λ k h. absurd (false≢true h) }
  all_went (k ∷ ks) s t works c =
      let now = c.0 in
      let m = moved base name apart k c.1 s now c.3 in
      let here = session_left k s now c.1 (s.actor (name k)).txn refl (λ x e. works k x e) c.2 c.3 in
      let step = λ (j : ℕ). ⊎_elim
      (λ (e : (j == k) ≡ true). subst (λ i. Went (s.actor (name i)) (now.actor (name i))) (sym (eqb-true j k e)) (inr here))
      (λ (e : (j == k) ≡ false). inl (m.others j e))
      (cases_Bool (j == k)) in
      let rest = all_went ks now t (λ j x runs. still j x runs m here) c.4 in
      record {
        kept = rest.kept;
        later = later_more s.clock now.clock t.clock m.later rest.later;
        went = λ j. went_more (s.actor (name j)) (now.actor (name j)) (t.actor (name j)) (step j) (rest.went j);
        left = λ j h. ⊎_elim
            (λ (e : (k == j) ≡ true). subst (λ i. IsLeft (s.actor (name i)) (t.actor (name i))) (eqb-true k j e) (first_left here (rest.went k)))
            (λ (e : has_number j ks ≡ true). last_left (step j) (rest.left j e))
            (or_cases (k == j) (has_number j ks) h);
      }
    where
      still : (j : ℕ) (x : Transaction) → RunsAt c.0 (name j) x → Moved base name k s c.0 → IsLeft (s.actor (name k)) (c.0.actor (name k)) → is_working x ≡ true
      still j x runs m here = ⊎_elim
          (λ (e : (j == k) ≡ true). absurd (none_some x (sym here.idle ∙ ap (λ i. (c.0.actor (name i)).txn) (sym (eqb-true j k e)) ∙ runs)))
          (λ (e : (j == k) ≡ false). works j x (ap (λ (b : Actor). b.txn) (sym (m.others j e)) ∙ runs))
          (cases_Bool (j == k))

      first_left : {a b d : Actor} → IsLeft a b → Went b d → IsLeft a d
      first_left {a} {b} {d} f (inl e) = subst (IsLeft a) (sym e) f
      first_left {a} {b} {d} f (inr g) = left_more a b d f g

      last_left : {a b d : Actor} → Went a b → IsLeft b d → IsLeft a d
      last_left {a} {b} {d} (inl e) g = subst (λ z. IsLeft z d) e g
      last_left {a} {b} {d} (inr f) g = left_more a b d f g

-- ---- the end

-- the receipts of the transactions that are left
left_of : Option Transaction → List Receipt
left_of None = []
left_of (Some x) = record { txn = txn_view x; ends = Without } ∷ []

all_left : (ℕ → Option Transaction) → List ℕ → List Receipt
all_left txn [] = []
all_left txn (k ∷ ks) = left_of (txn k) ++ all_left txn ks

in_left : (u : Receipt) (xs ys : List Receipt) → In u xs → In u (xs ++ ys)
in_left u [] ys m = absurd m
in_left u (x ∷ xs) ys (inl e) = inl e
in_left u (x ∷ xs) ys (inr m) = inr (in_left u xs ys m)

pub split_in : (u : Receipt) (xs ys : List Receipt) → In u (xs ++ ys) → In u xs ⊎ In u ys
split_in u [] ys m = inr m
split_in u (x ∷ xs) ys (inl e) = inl (inl e)
split_in u (x ∷ xs) ys (inr m) = ⊎_elim (λ (a : In u xs). inl (inr a)) (λ (b : In u ys). inr b) (split_in u xs ys m)

left_in : (txn : ℕ → Option Transaction) (ks : List ℕ) (k : ℕ) (x : Transaction) → has_number k ks ≡ true → txn k ≡ Some x → In (record { txn = txn_view x; ends = Without }) (all_left txn ks)
unfolding left_of all_left
left_in txn [] k x h e = absurd (false≢true h)
left_in txn (j ∷ ks) k x h e = ⊎_elim
    (λ (here : (j == k) ≡ true). in_left _ (left_of (txn j)) (all_left txn ks) (subst (λ o. In (record { txn = txn_view x; ends = Without }) (left_of o)) (sym (ap txn (eqb-true j k here) ∙ e)) (inl refl)))
    (λ (there : has_number k ks ≡ true). in_right _ (left_of (txn j)) (all_left txn ks) (left_in txn ks k x there e))
    (or_cases (j == k) (has_number k ks) h)

left_from : (txn : ℕ → Option Transaction) (ks : List ℕ) (u : Receipt) → In u (all_left txn ks) → (k : ℕ) × (x : Transaction) × (txn k ≡ Some x) × (u ≡ record { txn = txn_view x; ends = Without })
unfolding left_of all_left
left_from txn [] u m = absurd m
left_from txn (j ∷ ks) u m = ⊎_elim
    (λ (here : In u (left_of (txn j))). by_txn (txn j) refl here)
    (λ (there : In u (all_left txn ks)). left_from txn ks u there)
    (split_in u (left_of (txn j)) (all_left txn ks) m)
  where
    by_txn : (o : Option Transaction) → txn j ≡ o → In u (left_of o) → (k : ℕ) × (x : Transaction) × (txn k ≡ Some x) × (u ≡ record { txn = txn_view x; ends = Without })
    by_txn None e h = absurd h
    by_txn (Some x) e (inl is) = (j, x, e, is)
    by_txn (Some x) e (inr n) = absurd n

module _ (base : Base) (name : ℕ → Name) (apart : (j k : ℕ) → name j ≡ name k → j ≡ k) (p q : Pass) (w : WoundUp base name p q) (fit : Fit base name p) (rs : List Receipt) (ds : List ℕ) (t : Tallies name p.seen rs ds) where
  abbrev txn : ℕ → Option Transaction
  txn k = (p.seen.actor (name k)).txn

  abbrev left : List Receipt
  left = all_left txn w.sessions

  went : AllWent base name apart w.sessions p.seen q.seen
  went = all_went base name apart w.sessions p.seen q.seen fit.works w.closed

  is_left : (k : ℕ) → IsLeft (p.seen.actor (name k)) (q.seen.actor (name k))
  is_left k = by_test (has_number k w.sessions) refl
    where
      by_test : (b : Bool) → has_number k w.sessions ≡ b → IsLeft (p.seen.actor (name k)) (q.seen.actor (name k))
      by_test true h = went.left k h
      by_test false h = ⊎_elim
          (λ (e : q.seen.actor (name k) ≡ p.seen.actor (name k)). record {
            idle = ap (λ (a : Actor). a.txn) e ∙ w.others k h;
            receipts = subst (λ o. LeftBy o (p.seen.actor (name k)) (q.seen.actor (name k))) (sym (w.others k h)) (ap (λ (a : Actor). a.receipts) e);
            drew = ap (λ (a : Actor). a.drew) e;
          })
          (λ (l : IsLeft (p.seen.actor (name k)) (q.seen.actor (name k))). l)
          (went.went k)

  wound_idle : (k : ℕ) → (q.seen.actor (name k)).txn ≡ None
  wound_idle k = (is_left k).idle

  wound_kept : Kept base run_limits q.seen
  wound_kept = went.kept

  in_list : (k : ℕ) (x : Transaction) → txn k ≡ Some x → has_number k w.sessions ≡ true
  in_list k x e = by_test (has_number k w.sessions) refl
    where
      by_test : (b : Bool) → has_number k w.sessions ≡ b → b ≡ true
      by_test true h = refl
      by_test false h = absurd (none_some x (sym (w.others k h) ∙ e))

  wound_sight : closing.WoundUp base (sight name p rs ds) (sight name q (left ++ rs) ds)
  wound_sight = record {
    sees = sees base run_limits name name p q rs (left ++ rs) ds ds fit.kept (let e = w.told in omega (arith, e)) went.later;
    kept = λ u m. in_right u left rs m;
    undone = λ k x e.
        let v = view_of (txn k) x e in
        in_left _ left rs (subst (λ (z : Txn). In (record { txn = z; ends = Without }) left) (sym v.2) (left_in txn w.sessions k v.0 (in_list k v.0 v.1) v.1));
    only = λ u m. ⊎_elim
        (λ (a : In u left). let f = left_from txn w.sessions u a in inr (f.0, txn_view f.1, ap txn_views f.2, f.3))
        (λ (b : In u rs). inl b)
        (split_in u left rs m);
    closed = λ k. ap txn_views (is_left k).idle;
    drawn = refl;
  }

  wound_tallies : Tallies name q.seen (left ++ rs) ds
  wound_tallies = record {
    came = λ k r m. by_came k r (txn k) refl (is_left k).receipts m;
    back = λ u m. ⊎_elim
        (λ (a : In u left).
        let f = left_from txn w.sessions u a in
        let l : LeftBy (Some f.1) (p.seen.actor (name f.0)) (q.seen.actor (name f.0)) = subst (λ o. LeftBy o (p.seen.actor (name f.0)) (q.seen.actor (name f.0))) f.2 (is_left f.0).receipts in
        (f.0, l.0, subst (InReceipts l.0) (sym l.1) (inl refl), subst (λ z. Alike l.0 z) (sym f.3) l.2))
        (λ (b : In u rs).
        let f = t.back u b in
        (f.0, f.1, by_back f.0 f.1 (txn f.0) (is_left f.0).receipts f.2, f.3))
        (split_in u left rs m);
    drew = λ k v h. t.drew k v (ap (has_number v) (sym (is_left k).drew) ∙ h);
    drawn = λ v h. let f = t.drawn v h in (f.0, ap (has_number v) (is_left f.0).drew ∙ f.1);
  }
    where
      by_came : (k : ℕ) (r : CoreReceipt) (o : Option Transaction) → txn k ≡ o → LeftBy o (p.seen.actor (name k)) (q.seen.actor (name k)) → InReceipts r (q.seen.actor (name k)).receipts → (u : Receipt) × In u (left ++ rs) × Alike r u
      by_came k r None e l m = let f = t.came k r (subst (InReceipts r) l m) in (f.0, in_right f.0 left rs f.1, f.2)
      by_came k r (Some x) e l m = ⊎_elim
          (λ (is : r ≡ l.0). (
            record { txn = txn_view x; ends = Without },
            in_left _ left rs (left_in txn w.sessions k x (in_list k x e) e),
            subst (λ z. Alike z (record { txn = txn_view x; ends = Without })) (sym is) l.2,
          ))
          (λ (old : InReceipts r (p.seen.actor (name k)).receipts). let f = t.came k r old in (f.0, in_right f.0 left rs f.1, f.2))
          (subst (InReceipts r) l.1 m)

      by_back : (k : ℕ) (r : CoreReceipt) (o : Option Transaction) → LeftBy o (p.seen.actor (name k)) (q.seen.actor (name k)) → InReceipts r (p.seen.actor (name k)).receipts → InReceipts r (q.seen.actor (name k)).receipts
      by_back k r None l m = subst (InReceipts r) (sym l) m
      by_back k r (Some x) l m = subst (InReceipts r) (sym l.1) (inr m)

-- ---- all workers

-- What holds of the lines of each worker holds of all lines.
abbrev EachNotEnded : (ℕ → ℕ → State) → List Replied → Type 0
EachNotEnded first [] = Unit {0}
EachNotEnded first (a ∷ above) = NotEnded (first a.phase a.worker) a.reply × EachNotEnded first above

each_not_ended : (first : ℕ → ℕ → State) (lines : List Replied) → ((ph w : ℕ) → NoneEnded (first ph w) (own_lines ph w lines)) → EachNotEnded first lines
each_not_ended first [] h = tt
each_not_ended first (a ∷ above) h =
    ((subst (λ b. NoneEnded (first a.phase a.worker) (cond b (a ∷ own_lines a.phase a.worker above) (own_lines a.phase a.worker above))) here (h a.phase a.worker)).0, each_not_ended first above (λ ph w. rest ph w (a.phase == ph && a.worker == w) (h ph w)))
  where
    here : (a.phase == a.phase && a.worker == a.worker) ≡ true
    here = and_from _ _ (eq-eqb a.phase a.phase refl) (eq-eqb a.worker a.worker refl)

    rest : (ph w : ℕ) (b : Bool) → NoneEnded (first ph w) (cond b (a ∷ own_lines ph w above) (own_lines ph w above)) → NoneEnded (first ph w) (own_lines ph w above)
    rest ph w true g = g.1
    rest ph w false g = g

module _ (base : Base) (found : Found) (lines : List Replied) (closed : State) (good : IsGood base) (A : AllRan base found closed lines) where
  apart : (ph w j k : ℕ) → A.name ph w j ≡ A.name ph w k → j ≡ k
  apart ph w j k e = sym (A.named.session ph w j) ∙ ap A.named.session_of e ∙ A.named.session ph w k

  pub started : (ph w : ℕ) → HasStarted base (A.name ph w) (A.first ph w)
  started ph w = has_started base (A.name ph w) (apart ph w) (A.first ph w) (A.starts ph w)

  pub out : (ph w : ℕ) → ServedOut base (A.name ph w) (A.first ph w) (own_lines ph w lines) (A.now ph w)
  out ph w = served_out base good (A.name ph w) (apart ph w) (A.first ph w) (started ph w) (own_lines ph w lines) (A.now ph w) (A.served ph w)

  ends_kept : (ph w : ℕ) → Kept base run_limits (A.last ph w).seen
  ends_kept ph w = wound_kept base (A.name ph w) (apart ph w) (A.now ph w) (A.last ph w) (A.wound_up ph w) (out ph w).fit (out ph w).receipts (out ph w).drawn (out ph w).tallies

  -- no transaction runs at the end
  pub idle : Idle closed
  idle i = ⊎_elim
      (λ (none : IsUnused (closed.actor i)). none.txn)
      (λ (of : (ph : ℕ) × (w : ℕ) × (k : ℕ) × (i ≡ A.name ph w k)).
      ap (λ j. (closed.actor j).txn) of.3 ∙ ap (λ (a : Actor). a.txn) (A.closed.same of.0 of.1 of.2)
      ∙ wound_idle base (A.name of.0 of.1) (apart of.0 of.1) (A.now of.0 of.1) (A.last of.0 of.1) (A.wound_up of.0 of.1) (out of.0 of.1).fit (out of.0 of.1).receipts (out of.0 of.1).drawn (out of.0 of.1).tallies of.2)
      (A.closed.only i)

  -- the receipts of a pass at the end: those that its lines told, under those of the transactions that were left
  pub left_receipts : ℕ → ℕ → List Receipt
  left_receipts ph w = all_left (λ k. ((A.now ph w).seen.actor (A.name ph w k)).txn) (A.wound_up ph w).sessions

  -- no reply told how those that were left ended
  pub left_without : (ph w : ℕ) (u : Receipt) → In u (left_receipts ph w) → u.ends ≡ Without
  unfolding left_receipts
  left_without ph w u among = ap (λ (v : Receipt). v.ends) (left_from (λ k. ((A.now ph w).seen.actor (A.name ph w k)).txn) (A.wound_up ph w).sessions u among).3

  abbrev pub last_receipts : ℕ → ℕ → List Receipt
  last_receipts ph w = left_receipts ph w ++ (out ph w).receipts

  pub last_tallies : (ph w : ℕ) → Tallies (A.name ph w) (A.last ph w).seen (last_receipts ph w) (out ph w).drawn
  unfolding left_receipts
  last_tallies ph w = wound_tallies base (A.name ph w) (apart ph w) (A.now ph w) (A.last ph w) (A.wound_up ph w) (out ph w).fit (out ph w).receipts (out ph w).drawn (out ph w).tallies

  abbrev pub last_sight : ℕ → ℕ → Sight
  last_sight ph w = sight (A.name ph w) (A.last ph w) (last_receipts ph w) (out ph w).drawn

  pub all_close : closing.Closes base closed.clock.records last_sight
  all_close = closes base found A.name A.named A.last closed good A.closed idle ends_kept last_receipts (λ ph w. (out ph w).drawn) last_tallies

  -- a transaction of an earlier phase has ended when a line names its holder
  not_earlier : (a : Replied) → NotEnded (A.first a.phase a.worker).seen a.reply → closing.NotEarlier last_sight a
  not_earlier a h v n is ph w u lt among e =
      let b = (last_tallies ph w).back u among in
      let there = (A.split ph w a.phase a.worker lt).receipts (A.name ph w b.0) b.1 b.2 in
      (subst (NotEnded (A.first a.phase a.worker).seen) is h) (A.name ph w b.0) b.1 there (sym b.3.number ∙ e)

  all_not_earlier : (rest : List Replied) → EachNotEnded (λ ph w. (A.first ph w).seen) rest → closing.AllNotEarlier last_sight rest
  all_not_earlier [] h = tt
  all_not_earlier (a ∷ above) h = (not_earlier a h.0, all_not_earlier above h.1)

  -- What all workers ran, and what close tells of the core, make the replies of all their lines legal.
  pub all-lines-legal : (seat : ℕ → ℕ → ℕ) → Seated seat lines → LinesLegal base closed.clock.records lines
  unfolding left_receipts
  all-lines-legal seat seated = seated-legal base closed.clock.records lines seat seated (record {
    first = λ ph w. sight (A.name ph w) (A.first ph w) [] [];
    now = λ ph w. sight (A.name ph w) (A.now ph w) (out ph w).receipts (out ph w).drawn;
    last = last_sight;
    starts = λ ph w. starts_sight base (A.name ph w) (A.first ph w) (started ph w);
    served = λ ph w. (out ph w).did;
    wound_up = λ ph w. wound_sight base (A.name ph w) (apart ph w) (A.now ph w) (A.last ph w) (A.wound_up ph w) (out ph w).fit (out ph w).receipts (out ph w).drawn (out ph w).tallies;
    split = λ ph w ph2 w2 lt. sees base run_limits (A.name ph w) (A.name ph2 w2) (A.last ph w) (A.first ph2 w2) (last_receipts ph w) [] (out ph w).drawn [] (ends_kept ph w) (A.split ph w ph2 w2 lt).told (A.split ph w ph2 w2 lt).later;
    closes = all_close;
    earlier = all_not_earlier lines (each_not_ended (λ ph w. (A.first ph w).seen) lines (λ ph w. (out ph w).held));
  })

-- The law: the replies of all phases are legal.
pub all-workers-legal : (base : Base) (found : Found) (phases : List Phase) (replies : List Reply) (closed : State) → IsGood base → length (asked_from 0 phases) ≡ length replies → AllRan base found closed (history phases replies) → Legal phases base closed.clock.records replies
all-workers-legal base found phases replies closed good one A = legal_of base phases replies closed.clock.records one
    (all-lines-legal base found (history phases replies) closed good A (seat_from 0 phases) (scripts_seated phases replies))
