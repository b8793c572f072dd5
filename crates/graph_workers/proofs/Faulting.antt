-- What the counts in `log-fault` replies tell: they are those kept for the groups that failed.
use Rattle.std.proofs.Common.{◌≡◌, ℕ, ◌+◌, ◌≤◌, ◌<◌, Bool, true, false, ◌&&◌, List, [], ◌∷◌, ◌++◌, length, refl, sym, ap, ◌∙◌, subst, arith, inl, inr, ⊎_elim, map, Option, Some, None}
use Rattle.std.specs.Prelude.{◌==◌, if◌then◌else◌}
use Rattle.std.specs.List.{list_any}
use Rattle.std.proofs.lemmas.Bool.{eqb-true, eq-eqb, both_ways, false≢true, or_left, or_right, or_cases, and_parts, and_from, not-true, not_from_false, false_from_ne_true}
use Rattle.graph_model.specs.declared.graph.Base.{Base}
use Rattle.graph_model.specs.declared.record.Outcome.{Outcome}
use Rattle.graph_model.specs.declared.record.Outcome.TheVariants.{Failed}
use Rattle.graph_model.specs.Records.{IsGood, all_differ}
use Rattle.request_text.specs.declared.request.Request.{Request}
use Rattle.request_text.specs.declared.request.Request.TheVariants.{Begin, Vertex, Set, Drop, Put, Del, Get, Edge, Scan, Labels, Commit, Abort, Compact}
use Rattle.request_text.specs.declared.reply.Reply.{Reply}
use Rattle.request_text.specs.declared.reply.Reply.TheVariants as reply
use Rattle.graph_legal.specs.Lines.{Replied}
use Rattle.graph_legal.specs.Traces.{is_among}
use Rattle.graph_legal.specs.Kinds.{is_in_kind}
use Rattle.core_states.specs.declared.actor.Actor.{Actor}
use Rattle.core_states.specs.declared.clock.KeptOutcome.{KeptOutcome}
use Rattle.core_states.specs.declared.transaction.Receipt.{Receipt as CoreReceipt}
use Rattle.core_states.specs.declared.transaction.End.{End as CoreEnd}
use Rattle.core_states.specs.declared.transaction.End.TheVariants as core_end
use Rattle.core_states.specs.Durability.{is_fault, faults}
use Rattle.core_states.specs.LogParts.{Found}
use Rattle.core_states.specs.Numbers.{outcome_of}
use Rattle.core_states.specs.Openings.{run_limits}
use Rattle.core_states.specs.Sound.{Sound, InReceipts}
use Rattle.core_states.specs.Sound.{EndAgrees}
use Rattle.core_states.specs.States.{State}
use Rattle.core_kept.proofs.Keeping.{run_allowed}
use Rattle.core_laws.proofs.Sounds.{kept_sound}
use Rattle.graph_workers.specs.Faults.{is_log_fault, log_faults, FaultsTold}
use Rattle.graph_workers.specs.Workers.{AllRan}
use Rattle.graph_workers.proofs.Sights.{Txn, Receipt, Faulted, Pass, Worked, as_traces, receipt_told}
use Rattle.graph_workers.proofs.Closing.{In, Closes}
use Rattle.graph_workers.proofs.Pigeons.{without, without_not, without_from, without_differ, without_one, without_same}
use Rattle.graph_workers.proofs.Standing.{which, at_pass, leads_all}
use Rattle.graph_workers.proofs.Leading.{in_right}
use Rattle.graph_workers.proofs.Merging.{merge}
use Rattle.graph_workers.proofs.Views.{sight, EndAlike}
use Rattle.graph_workers.proofs.Lining.{Differ}
use Rattle.graph_workers.proofs.Working.{counted}
use Rattle.graph_workers.proofs.Serving.{out, left_receipts, last_tallies, last_sight, all_close}

-- ---- the outcomes of one group

the_outcome : (x y : Outcome) → Some x ≡ Some y → x ≡ y
the_outcome x y e = (cc)

-- Distinct numbers with this outcome are no more than the outcomes that are so.
packed : (m n : ℕ) (os : List KeptOutcome) (ts : List ℕ) → all_differ ts ≡ true → ((t : ℕ) → is_among t ts ≡ true → outcome_of t os ≡ Some (Failed m n)) → length ts ≤ faults m n os
packed m n [] [] d f = omega arith
packed m n [] (t ∷ ts) d f = absurd (none (f t (or_left _ _ (eq-eqb t t refl))))
  where
    none : None ≡ Some (Failed m n) → ⊥
    none e = (cc)
packed m n (o ∷ os) ts d f =
    by_test (is_fault m n o.outcome) refl (is_among o.tid ts) refl
    (packed m n os (without o.tid ts) (without_differ o.tid ts d) (λ t h. passes t (f t (without_from o.tid t ts h)) (λ e. both_ways _ (without_not o.tid ts) (subst (λ k. is_among k (without o.tid ts) ≡ true) e h))))
  where
    passes : (t : ℕ) → (if o.tid == t then Some o.outcome else outcome_of t os) ≡ Some (Failed m n) → (t ≡ o.tid → ⊥) → outcome_of t os ≡ Some (Failed m n)
    passes t e ne = by_tid (o.tid == t) refl e
      where
        by_tid : (b : Bool) → (o.tid == t) ≡ b → (if b then Some o.outcome else outcome_of t os) ≡ Some (Failed m n) → outcome_of t os ≡ Some (Failed m n)
        by_tid true is g = absurd (ne (sym (eqb-true o.tid t is)))
        by_tid false is g = g

    here : is_among o.tid ts ≡ true → is_fault m n o.outcome ≡ true
    here h = ap (is_fault m n) (the_outcome o.outcome (Failed m n) (sym first ∙ f o.tid h)) ∙ and_from _ _ (eq-eqb m m refl) (eq-eqb n n refl)
      where
        first : (if o.tid == o.tid then Some o.outcome else outcome_of o.tid os) ≡ Some o.outcome
        first = rw (eq-eqb o.tid o.tid refl) refl

    by_test : (b : Bool) → is_fault m n o.outcome ≡ b → (c : Bool) → is_among o.tid ts ≡ c → length (without o.tid ts) ≤ faults m n os → length ts ≤ (if b then faults m n os + 1 else faults m n os)
    by_test true e c g ih = let one = without_one o.tid ts d in omega (arith, one, ih)
    by_test false e true g ih = absurd (false≢true (sym e ∙ here g))
    by_test false e false g ih = let same = ap length (without_same o.tid ts g) in omega (arith, same, ih)

-- ---- the lines

reply_is : (m n : ℕ) (r : Reply) → is_log_fault m n r ≡ true → r ≡ reply.LogFault m n
reply_is m n (reply.LogFault b a) h = let parts = and_parts (m == b) (n == a) h in λ i. reply.LogFault (sym (eqb-true m b parts.0) i) (sym (eqb-true n a parts.1) i)
reply_is m n r h = absurd (false≢true h)

-- only a line with a transaction has such a reply
has_txn : (m n : ℕ) (q : Request) (o : Option Txn) → is_in_kind (as_traces o) q (reply.LogFault m n) ≡ true → (x : Txn) × (o ≡ Some x)
has_txn m n q (Some x) h = (x, refl)
has_txn m n Begin None h = absurd (false≢true h)
has_txn m n (Vertex p) None h = absurd (false≢true h)
has_txn m n (Set v p) None h = absurd (false≢true h)
has_txn m n (Drop v) None h = absurd (false≢true h)
has_txn m n (Put v l d p) None h = absurd (false≢true h)
has_txn m n (Del v l d) None h = absurd (false≢true h)
has_txn m n (Get v) None h = absurd (false≢true h)
has_txn m n (Edge v l d) None h = absurd (false≢true h)
has_txn m n (Scan v l) None h = absurd (false≢true h)
has_txn m n (Labels v) None h = absurd (false≢true h)
has_txn m n Commit None h = absurd (false≢true h)
has_txn m n Abort None h = absurd (false≢true h)
has_txn m n (Compact v l) None h = absurd (false≢true h)

differ_less : (xs ys : List Receipt) → Differ (xs ++ ys) → Differ ys
differ_less [] ys h = h
differ_less (x ∷ xs) ys h = differ_less xs ys (and_parts _ _ h).1

has_number_in : (u : Receipt) (us : List Receipt) → In u us → list_any (λ y. y == u.txn.number) (map (λ v. v.txn.number) us) ≡ true
has_number_in u [] h = absurd h
has_number_in u (v ∷ us) (inl e) = or_left _ _ (eq-eqb v.txn.number u.txn.number (ap (λ (w : Receipt). w.txn.number) (sym e)))
has_number_in u (v ∷ us) (inr h) = or_right (v.txn.number == u.txn.number) _ (has_number_in u us h)

module _ (base : Base) (m n : ℕ) (first : ℕ → ℕ → Pass) (phase_of worker_of : ℕ → ℕ) where
  -- a receipt with this number and these counts is among those of a pass
  record IsTold (now : ℕ → ℕ → Pass) (t : ℕ) : Type 0 where
    phase : ℕ
    worker : ℕ
    receipt : Receipt
    among : In receipt (now phase worker).receipts
    number : receipt.txn.number ≡ t
    ends : receipt.ends ≡ Faulted m n

  -- The transactions of the lines whose replies have these counts.
  record Told (now : ℕ → ℕ → Pass) (lines : List Replied) : Type 0 where
    numbers : List ℕ
    differ : all_differ numbers ≡ true
    long : log_faults m n lines ≤ length numbers
    each : (t : ℕ) → is_among t numbers ≡ true → IsTold now t

  faults_in : (now : ℕ → ℕ → Pass) (lines : List Replied) → Worked base first lines now → ((ph k : ℕ) → Differ (now ph k).receipts) →
      ((ph k : ℕ) (u : Receipt) → In u (now ph k).receipts → (phase_of u.txn.number ≡ ph) × (worker_of u.txn.number ≡ k)) → Told now lines
  faults_in now [] w differ who = record { numbers = []; differ = refl; long = omega arith; each = λ t h. absurd (false≢true h) }
  faults_in now (a ∷ above) w differ who =
      by_reply (is_log_fault m n a.reply) refl
      (faults_in w.0 above w.1
      (λ ph k. ⊎_elim
      (λ (e : (ph ≡ a.phase) × (k ≡ a.worker)). at_pass (λ x y. Differ (w.0 x y).receipts) a ph k e.0 e.1
      (differ_less (receipt_told a.reply ((w.0 a.phase a.worker).sessions a.session)) (w.0 a.phase a.worker).receipts (subst Differ w.2.receipts (differ a.phase a.worker))))
      (λ (e : (ph == a.phase && k == a.worker) ≡ false). subst (λ (p : Pass). Differ p.receipts) (w.3 ph k e) (differ ph k))
      (which a ph k))
      (λ ph k u among. who ph k u (later ph k u among)))
    where
      later : (ph k : ℕ) (u : Receipt) → In u (w.0 ph k).receipts → In u (now ph k).receipts
      later ph k u among = (leads_all base first now a above w ph k).kept u among

      told_later : (t : ℕ) → IsTold w.0 t → IsTold now t
      told_later t h = record { phase = h.phase; worker = h.worker; receipt = h.receipt; among = later h.phase h.worker h.receipt h.among; number = h.number; ends = h.ends }

      by_reply : (b : Bool) → is_log_fault m n a.reply ≡ b → Told w.0 above → Told now (a ∷ above)
      by_reply false e ih = record {
        numbers = ih.numbers;
        differ = ih.differ;
        long = (let size : log_faults m n (a ∷ above) ≡ log_faults m n above = rw e refl in let low = ih.long in omega (arith, size, low));
        each = λ t h. told_later t (ih.each t h);
      }
      by_reply true e ih =
          let is : a.reply ≡ reply.LogFault m n = reply_is m n a.reply e in
          let old = w.0 a.phase a.worker in
          let txn = has_txn m n a.request (old.sessions a.session) (subst (λ r. is_in_kind (as_traces (old.sessions a.session)) a.request r ≡ true) is w.2.kind) in
          let u : Receipt = record { txn = txn.0; ends = Faulted m n } in
          let now_has : (now a.phase a.worker).receipts ≡ u ∷ old.receipts =
          subst (λ o. (now a.phase a.worker).receipts ≡ receipt_told (reply.LogFault m n) o ++ old.receipts) txn.1 (subst (λ r. (now a.phase a.worker).receipts ≡ receipt_told r (old.sessions a.session) ++ old.receipts) is w.2.receipts) in
          let here : In u (now a.phase a.worker).receipts = subst (In u) (sym now_has) (inl refl) in
          let alone : list_any (λ y. y == u.txn.number) (map (λ (v : Receipt). v.txn.number) old.receipts) ≡ false = not-true _ (and_parts _ _ (subst Differ now_has (differ a.phase a.worker))).0 in
          let mine = who a.phase a.worker u here in
          record {
            numbers = u.txn.number ∷ ih.numbers;
            differ = and_from _ _ (not_from_false _ (false_from_ne_true (is_among u.txn.number ih.numbers) (λ h.
                let h2 = ih.each u.txn.number h in
                let theirs = who h2.phase h2.worker h2.receipt (later h2.phase h2.worker h2.receipt h2.among) in
                let ph : h2.phase ≡ a.phase = sym theirs.0 ∙ ap phase_of h2.number ∙ mine.0 in
                let k : h2.worker ≡ a.worker = sym theirs.1 ∙ ap worker_of h2.number ∙ mine.1 in
                let same : In h2.receipt old.receipts = subst (λ y. In h2.receipt (w.0 a.phase y).receipts) k (subst (λ x. In h2.receipt (w.0 x h2.worker).receipts) ph h2.among) in
                both_ways _ alone (subst (λ z. list_any (λ y. y == z) (map (λ (v : Receipt). v.txn.number) old.receipts) ≡ true) h2.number (has_number_in h2.receipt old.receipts same))))) ih.differ;
            long = (let size : log_faults m n (a ∷ above) ≡ log_faults m n above + 1 = rw e refl in let low = ih.long in omega (arith, size, low));
            each = λ t h. ⊎_elim
                (λ (f : (u.txn.number == t) ≡ true). record { phase = a.phase; worker = a.worker; receipt = u; among = here; number = eqb-true u.txn.number t f; ends = refl })
                (λ (f : is_among t ih.numbers ≡ true). told_later t (ih.each t f))
                (or_cases (u.txn.number == t) (is_among t ih.numbers) h);
          }

-- a receipt of the core that is like one with these counts has them
core_faulted : (m n : ℕ) (c : CoreEnd) → EndAlike c (Faulted m n) → c ≡ core_end.Faulted m n
core_faulted m n (core_end.Faulted b a) h = λ i. core_end.Faulted (h.0 i) (h.1 i)
core_faulted m n (core_end.CommittedAt e) h = absurd h
core_faulted m n (core_end.HeldBy v t) h = absurd h
core_faulted m n (core_end.ConflictAt v e) h = absurd h
core_faulted m n core_end.Without h = absurd h

module _ (base : Base) (found : Found) (lines : List Replied) (closed : State) (good : IsGood base) (A : AllRan base found closed lines) where
  sound : Sound base closed
  sound = kept_sound base run_limits closed good run_allowed A.closed.kept

  abbrev now_sight : ℕ → ℕ → Pass
  now_sight ph w = sight (A.name ph w) (A.now ph w) (out base found lines closed good A ph w).receipts (out base found lines closed good A ph w).drawn

  -- a receipt of the lines has the outcome that the core keeps
  kept_outcome : (m n ph w : ℕ) (u : Receipt) → In u (out base found lines closed good A ph w).receipts → u.ends ≡ Faulted m n → outcome_of u.txn.number closed.clock.outcomes ≡ Some (Failed m n)
  kept_outcome m n ph w u among ends =
      let b = (last_tallies base found lines closed good A ph w).back u (in_right u (left_receipts base found lines closed good A ph w) (out base found lines closed good A ph w).receipts among) in
      let c : CoreReceipt = b.1 in
      let there : InReceipts c (closed.actor (A.name ph w b.0)).receipts = subst (λ (a : Actor). InReceipts c a.receipts) (sym (A.closed.same ph w b.0)) b.2 in
      let is : c.ends ≡ core_end.Faulted m n = core_faulted m n c.ends (subst (EndAlike c.ends) ends b.3.ends) in
      let holds : EndAgrees closed c (core_end.Faulted m n) = subst (EndAgrees closed c) is (sound.receipts.ends (A.name ph w b.0) c there) in
      ap (λ t. outcome_of t closed.clock.outcomes) b.3.number ∙ holds.1

  told : (m n : ℕ) → Told base m n (λ ph w. sight (A.name ph w) (A.first ph w) [] []) (all_close base found lines closed good A).phase_of (all_close base found lines closed good A).worker_of now_sight lines
  told m n = faults_in base m n (λ ph w. sight (A.name ph w) (A.first ph w) [] []) C.phase_of C.worker_of now_sight lines
      (merge base (λ ph w. sight (A.name ph w) (A.first ph w) [] []) now_sight lines (λ ph w. (out base found lines closed good A ph w).did))
      (λ ph k. (out base found lines closed good A ph k).differ)
      (λ ph k u among. let at = C.who ph k u (in_right u (left_receipts base found lines closed good A ph k) (out base found lines closed good A ph k).receipts among) in (at.0, at.1))
    where
      C : Closes base closed.clock.records (last_sight base found lines closed good A)
      C = all_close base found lines closed good A

  all_so : (m n t : ℕ) → is_among t (told m n).numbers ≡ true → outcome_of t closed.clock.outcomes ≡ Some (Failed m n)
  all_so m n t h =
      let e = (told m n).each t h in
      ap (λ k. outcome_of k closed.clock.outcomes) (sym e.number) ∙ kept_outcome m n e.phase e.worker e.receipt e.among e.ends

  -- where there is such a line, its record has failed so
  one_of : (m n : ℕ) → 0 < log_faults m n lines → (t : ℕ) × (outcome_of t closed.clock.outcomes ≡ Some (Failed m n))
  one_of m n some = by_numbers (told m n).numbers (λ t h. all_so m n t h) (let low = (told m n).long in omega (arith, low, some))
    where
      by_numbers : (ts : List ℕ) → ((t : ℕ) → is_among t ts ≡ true → outcome_of t closed.clock.outcomes ≡ Some (Failed m n)) → 0 < length ts → (t : ℕ) × (outcome_of t closed.clock.outcomes ≡ Some (Failed m n))
      by_numbers [] f lt = absurd (omega (arith, lt))
      by_numbers (t ∷ ts) f lt = (t, f t (or_left _ _ (eq-eqb t t refl)))

  pub faults_told : FaultsTold found closed lines
  faults_told = record {
    rose = λ m n some. (let o = one_of m n some in
        let c = counted o.0 m n closed.log.opening_count closed.log.greatest closed.clock.outcomes sound.durability.counts o.1 in
        let low = c.0 in
        let same = A.closed.opened.opening_count in
        (omega (arith, low, same), c.1, c.2));
    apart = λ m n k l some more. let o = one_of m n some in let q = one_of k l more in sound.durability.spans o.0 q.0 m n k l o.1 q.1;
    few = λ m n.
        let low = (told m n).long in
        let high = packed m n closed.clock.outcomes (told m n).numbers (told m n).differ (λ t h. all_so m n t h) in
        let most = sound.durability.few m n in
        omega (arith, low, high, most);
  }
