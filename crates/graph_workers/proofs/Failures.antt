-- The record of each failed transaction has a line that told of it.
use Rattle.std.proofs.Common.{◌≡◌, ℕ, true, false, ◌&&◌, List, [], ◌∷◌, refl, sym, ap, ◌∙◌, subst, inl, inr, ⊎_elim, Option, Some, None}
use Rattle.std.specs.Prelude.{◌==◌}
use Rattle.graph_model.specs.declared.graph.Base.{Base}
use Rattle.graph_model.specs.declared.record.Record.{Record}
use Rattle.graph_model.specs.Records.{IsGood}
use Rattle.request_text.specs.declared.reply.Reply.{Reply}
use Rattle.request_text.specs.declared.reply.Reply.TheVariants as reply
use Rattle.graph_legal.specs.Lines.{Phase, Replied, history}
use Rattle.graph_legal.specs.OneWorker.{record_in}
use Rattle.graph_legal.specs.Traces.{Trace, trace_of, is_ending}
use Rattle.core_states.specs.declared.actor.Actor.{Actor}
use Rattle.core_states.specs.declared.transaction.Receipt.{Receipt as CoreReceipt}
use Rattle.core_states.specs.declared.transaction.End.TheVariants as core_end
use Rattle.core_states.specs.Faults.{RunsWith, FaultedWith, FailedAs}
use Rattle.core_states.specs.LogParts.{Found}
use Rattle.core_states.specs.Names.{Name}
use Rattle.core_states.specs.Sound.{InReceipts}
use Rattle.core_states.specs.States.{State}
use Rattle.graph_workers.specs.Faults.{SomeLine, IsToldFailed}
use Rattle.graph_workers.specs.Lines.{Seated}
use Rattle.graph_workers.specs.Workers.{IsUnused, AllRan}
use Rattle.graph_workers.proofs.Sights.{Txn, End, Faulted, Without, Receipt, Pass, end_told, Worked}
use Rattle.graph_workers.proofs.Closing.{In, Starts}
use Rattle.graph_workers.proofs.Law.{seat_from, scripts_seated}
use Rattle.graph_workers.proofs.Leading.{told_in}
use Rattle.graph_workers.proofs.Merging.{merge}
use Rattle.graph_workers.proofs.Receipted.{none_some, here}
use Rattle.graph_workers.proofs.Serving.{split_in, starts_sight, started, idle, out, left_receipts, left_without, last_tallies}
use Rattle.graph_workers.proofs.Standing.{IsSame, Matches, which}
use Rattle.graph_workers.proofs.Views.{sight, EndAlike, Alike}

-- what holds of some line
some_more : (P Q : Replied → List Replied → Type 0) (lines : List Replied) → ((a : Replied) (above : List Replied) → P a above → Q a above) → SomeLine P lines → SomeLine Q lines
some_more P Q [] f h = absurd h
some_more P Q (a ∷ above) f (inl now) = inl (f a above now)
some_more P Q (a ∷ above) f (inr past) = inr (some_more P Q above f past)

-- ---- a receipt with these counts comes from a line that told them

-- a line that told of this transaction that its record failed
abbrev TellsFault : ℕ → ℕ → Txn → Replied → List Replied → Type 0
TellsFault m n x a above = (a.reply ≡ reply.LogFault m n) × (t : Trace) × (trace_of a above ≡ Some t) × IsSame t x

fault_reply : (r : Reply) (m n : ℕ) → end_told r ≡ Faulted m n → r ≡ reply.LogFault m n
fault_reply (reply.LogFault b a) m n h = (cc)
fault_reply (reply.Committed e) m n h = absurd (cc)
fault_reply (reply.Held v t) m n h = absurd (cc)
fault_reply (reply.Conflict v e) m n h = absurd (cc)
fault_reply r m n h = absurd (cc)

its_trace : (o : Option Trace) (x : Txn) → Matches o (Some x) → (t : Trace) × (o ≡ Some t) × IsSame t x
its_trace None x m = absurd m
its_trace (Some t) x m = (t, refl, m)

-- the line of a receipt
fault_line : (base : Base) (seat : ℕ → ℕ → ℕ) (first now : ℕ → ℕ → Pass) (lines : List Replied) → ((ph k : ℕ) → Starts base (first ph k)) → Seated seat lines → Worked base first lines now →
    (ph k : ℕ) (u : Receipt) (m n : ℕ) → In u (now ph k).receipts → u.ends ≡ Faulted m n → SomeLine (TellsFault m n u.txn) lines
fault_line base seat first now [] starts st w ph k u m n among is =
    absurd (subst (λ xs. In u xs) ((starts ph k).receipts) (subst (λ (p : Pass). In u p.receipts) (w ph k) among))
fault_line base seat first now (a ∷ above) starts st w ph k u m n among is = ⊎_elim
    (λ (same : (ph ≡ a.phase) × (k ≡ a.worker)). ⊎_elim
    (λ (old : In u (w.0 a.phase a.worker).receipts). inr (fault_line base seat first w.0 above starts st.1 w.1 a.phase a.worker u m n old is))
    (λ (new : (x : Txn) × ((w.0 a.phase a.worker).sessions a.session ≡ Some x) × (is_ending a.reply ≡ true) × (u ≡ record { txn = x; ends = end_told a.reply })). inl (told new))
    (told_in a.reply ((w.0 a.phase a.worker).sessions a.session) u (w.0 a.phase a.worker).receipts
    (subst (λ xs. In u xs) w.2.receipts (subst (λ j. In u (now a.phase j).receipts) same.1 (subst (λ i. In u (now i k).receipts) same.0 among)))))
    (λ (f : (ph == a.phase && k == a.worker) ≡ false). inr (fault_line base seat first w.0 above starts st.1 w.1 ph k u m n (subst (λ (p : Pass). In u p.receipts) (w.3 ph k f) among) is))
    (which a ph k)
  where
    told : (x : Txn) × ((w.0 a.phase a.worker).sessions a.session ≡ Some x) × (is_ending a.reply ≡ true) × (u ≡ record { txn = x; ends = end_told a.reply }) → TellsFault m n u.txn a above
    told new =
        let t = its_trace (trace_of a above) u.txn
        (subst (λ x. Matches (trace_of a above) (Some x)) (ap (λ (y : Receipt). y.txn) (sym new.3)) (subst (λ o. Matches (trace_of a above) o) new.1 (here base seat first now a above starts st w))) in
        (fault_reply a.reply m n (ap (λ (y : Receipt). y.ends) (sym new.3) ∙ is), t.0, t.1, t.2)

-- ---- the core keeps no receipt with counts of which no line told

-- a receipt that is like one of the core with these counts has them
told_faulted : (m n : ℕ) (e : End) → EndAlike (core_end.Faulted m n) e → (e ≡ Faulted m n) × (e ≡ Without → ⊥)
told_faulted m n (Faulted b a) h = ((λ i. Faulted (sym h.0 i) (sym h.1 i)), λ f. (cc))
told_faulted m n e h = absurd h

module _ (base : Base) (found : Found) (lines : List Replied) (closed : State) (good : IsGood base) (A : AllRan base found closed lines) (seat : ℕ → ℕ → ℕ) (seated : Seated seat lines) where
  -- the line of a receipt that a pass has at the end of its lines
  line_of : (ph w : ℕ) (u : Receipt) (m n : ℕ) → In u (out base found lines closed good A ph w).receipts → u.ends ≡ Faulted m n → SomeLine (TellsFault m n u.txn) lines
  line_of ph w u m n among is =
      fault_line base seat (λ p k. sight (A.name p k) (A.first p k) [] []) (λ p k. sight (A.name p k) (A.now p k) (out base found lines closed good A p k).receipts (out base found lines closed good A p k).drawn) lines
      (λ p k. starts_sight base (A.name p k) (A.first p k) (started base found lines closed good A p k)) seated
      (merge base (λ p k. sight (A.name p k) (A.first p k) [] []) (λ p k. sight (A.name p k) (A.now p k) (out base found lines closed good A p k).receipts (out base found lines closed good A p k).drawn) lines (λ p k. (out base found lines closed good A p k).did))
      ph w u m n among is

  -- A receipt with these counts has a line that told of its transaction.
  record HasLine (c : CoreReceipt) (m n : ℕ) : Type 0 where
    receipt : Receipt
    alike : Alike c receipt
    line : SomeLine (TellsFault m n receipt.txn) lines

  of_session : (ph w k : ℕ) (c : CoreReceipt) (m n : ℕ) → InReceipts c ((A.last ph w).seen.actor (A.name ph w k)).receipts → c.ends ≡ core_end.Faulted m n → HasLine c m n
  of_session ph w k c m n among is =
      let u = (last_tallies base found lines closed good A ph w).came k c among in
      let ends = told_faulted m n u.0.ends (subst (λ z. EndAlike z u.0.ends) is u.2.ends) in
      ⊎_elim
      (λ (left : In u.0 (left_receipts base found lines closed good A ph w)). absurd (ends.1 (left_without base found lines closed good A ph w u.0 left)))
      (λ (told : In u.0 (out base found lines closed good A ph w).receipts). record { receipt = u.0; alike = u.2; line = line_of ph w u.0 m n told ends.0 })
      (split_in u.0 (left_receipts base found lines closed good A ph w) (out base found lines closed good A ph w).receipts u.1)

  of_any : (i : Name) (c : CoreReceipt) (m n : ℕ) → InReceipts c (closed.actor i).receipts → c.ends ≡ core_end.Faulted m n → HasLine c m n
  of_any i c m n among is = ⊎_elim
      (λ (none : IsUnused (closed.actor i)). absurd (subst (InReceipts c) none.receipts among))
      (λ (of : (ph : ℕ) × (w : ℕ) × (k : ℕ) × (i ≡ A.name ph w k)).
      of_session of.0 of.1 of.2 c m n (subst (InReceipts c) (ap (λ j. (closed.actor j).receipts) of.3 ∙ ap (λ (a : Actor). a.receipts) (A.closed.same of.0 of.1 of.2)) among) is)
      (A.closed.only i)

  -- At the end no transaction runs, so each that failed has its receipt.
  pub failed_told : (m n : ℕ) (r : Record) → FailedAs closed m n r → IsToldFailed m n r lines
  failed_told m n r failed = ⊎_elim
      (λ (runs : RunsWith closed r). absurd (none_some runs.txn (sym (idle base found lines closed good A runs.actor) ∙ runs.runs)))
      (λ (f : FaultedWith closed r m n).
      let l = of_any f.actor f.receipt m n f.among f.ends in
      some_more (TellsFault m n l.receipt.txn) (λ a above. (a.reply ≡ reply.LogFault m n) × (t : Trace) × (trace_of a above ≡ Some t) × (record_in t r.epoch ≡ r)) lines
      (λ a above h. (h.0, h.1, h.2, the_record h.1 l.receipt f.receipt h.3 l.alike f.number f.read f.changes)) l.line)
      failed.1
    where
      the_record : (t : Trace) (u : Receipt) (c : CoreReceipt) → IsSame t u.txn → Alike c u → c.tid ≡ r.tid → c.read ≡ r.read → c.changes ≡ r.changes → record_in t r.epoch ≡ r
      the_record t u c same alike number read changes i = record {
        tid = (same.number ∙ alike.number ∙ number) i;
        read = (same.read ∙ alike.read ∙ read) i;
        epoch = r.epoch;
        changes = (same.own ∙ alike.own ∙ changes) i;
      }

-- Of scripts.
pub failed_of_scripts : (base : Base) (found : Found) (phases : List Phase) (replies : List Reply) (closed : State) → IsGood base → AllRan base found closed (history phases replies) →
    (m n : ℕ) (r : Record) → FailedAs closed m n r → IsToldFailed m n r (history phases replies)
failed_of_scripts base found phases replies closed good A = failed_told base found (history phases replies) closed good A (seat_from 0 phases) (scripts_seated phases replies)
