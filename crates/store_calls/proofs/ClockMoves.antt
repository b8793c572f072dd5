-- The events of a session on the clock, and the session afterwards.
use Rattle.std.proofs.Common.{arith, ◌≡◌, ℕ, true, false, [], ◌∷◌, refl, sym, ap, ◌∙◌, subst, Some, None}
use Rattle.std.specs.Prelude.{if◌then◌else◌, ◌==◌}
use Rattle.std.proofs.lemmas.Bool.{ne_eqb, eq-eqb, or_left}
use Rattle.graph_model.specs.Records.{number_end, transaction_most}
use Rattle.core_states.specs.declared.actor.Actor.{Actor}
use Rattle.core_states.specs.declared.clock.Clock.{Clock}
use Rattle.core_states.specs.declared.event.Act.TheVariants as act
use Rattle.core_states.specs.declared.event.CoreAnswer.TheVariants as answer
use Rattle.core_states.specs.declared.transaction.Stage.TheVariants.{Open}
use Rattle.core_states.specs.declared.transaction.Transaction.{Transaction}
use Rattle.core_states.specs.ClockEvents.{with_row, begun_txn, begins, draws, ends, for_txn, for_none, same_clock}
use Rattle.core_states.specs.Numbers.{without_active, has_number}
use Rattle.core_states.specs.Transactions.{with_txn, is_loser, receipt_of, end_of}
use Rattle.group_commit.specs.Encoded.{Spells}
use Rattle.epoch_clock.specs.ClockCalls.{begun_clock, drawn_clock, ended_clock}
use Rattle.store_turns.specs.declared.session.Session.{Session}
use Rattle.store_turns.specs.declared.session.Work.{Work}
use Rattle.store_turns.specs.Fits.{IsWork, IsWorkOf, DoesClock}
use Rattle.store_turns.specs.Moves.{Works, IsLost, IsFree}
use Rattle.store_turns.proofs.Sessions.{no_txn, txn_of, works, all_free, still, session_with, beside}

pub does_open : (k : Clock) (s : Session) → s.is_open ≡ false → DoesClock (λ _. act.Open) k s (Some answer.Done) k (record s { is_open = true })
does_open k s closed a fit = (
  record { answer = answer.Done; clock = k; actor = with_row a true },
  (λ i. if (fit.row ∙ closed) i then None else same_clock answer.Done k (with_row a true)),
  refl,
  refl,
  record { row = refl; work = fit.work; finished = fit.finished; leads = fit.leads },
)

pub does_close : (k : Clock) (s : Session) → s.is_open ≡ true → s.work ≡ None → DoesClock (λ _. act.Close) k s (Some answer.Done) k (record s { is_open = false })
does_close k s opened idle a fit = (
  record { answer = answer.Done; clock = k; actor = with_row a false },
  (λ i. for_none (if (fit.row ∙ opened) i then same_clock answer.Done k (with_row a false) else None) (no_txn s.work a.txn fit.work idle i)),
  refl,
  refl,
  record { row = refl; work = fit.work; finished = fit.finished; leads = fit.leads },
)

-- a transaction that has just begun
pub record IsFresh (w : Work) (k : Clock) : Type 0 where
  pub tid : w.tid ≡ k.next_tid
  pub read : w.read ≡ k.visible
  pub stage : w.stage ≡ Open
  pub drawn : w.drawn ≡ None
  pub changes : w.changes ≡ []
  pub touched : w.touched.taken ≡ []
  pub settled : w.settled ≡ 0
  pub left : w.left ≡ transaction_most

fresh_work : (w : Work) (k : Clock) → IsFresh w k → IsWork w (begun_txn k)
fresh_work w k fresh = record {
  tid = sym fresh.tid;
  read = sym fresh.read;
  stage = sym fresh.stage;
  own = λ is_open. sym fresh.changes;
  drawn = λ v is. absurd (let none = fresh.drawn in let e : ⊥ = (cc) in e);
  touched = λ v. rw fresh.touched refl;
  changed = λ v. rw fresh.touched refl;
  settled = λ v. rw (fresh.touched, fresh.settled) refl;
  working = λ none_settled. refl;
  left = (let all = fresh.left in omega (arith, all));
}

pub does_begin : (k k' : Clock) (s : Session) (w : Work) (n e : ℕ) → s.is_open ≡ true → s.work ≡ None → (k.next_tid ≡ number_end → ⊥) → IsFresh w k → w.tid ≡ n → w.read ≡ e → k' ≡ begun_clock k
    → DoesClock (λ _. act.Begin) k s (Some (answer.Begun n e)) k' (record s { finished = None; work = Some w })
does_begin k k' s w n e opened idle more fresh number reads after a fit = (
  record { answer = answer.Begun k.next_tid k.visible; clock = begun_clock k; actor = record a { txn = Some (begun_txn k); looked = None; finished = None } },
  (λ i. for_none (begins k a) (no_txn s.work a.txn fit.work idle i)) ∙ rw (fit.row ∙ opened, ne_eqb k.next_tid number_end more) refl,
  (λ i. answer.Begun ((sym fresh.tid ∙ number) i) ((sym fresh.read ∙ reads) i)),
  sym after,
  record { row = fit.row; work = fresh_work w k fresh; finished = refl; leads = fit.leads },
)

pub does_begin_spent : (k k' : Clock) (s : Session) → s.is_open ≡ true → s.work ≡ None → k.next_tid ≡ number_end → k' ≡ k → DoesClock (λ _. act.Begin) k s (Some answer.Spent) k' s
does_begin_spent k k' s opened idle spent after a fit = (
  record { answer = answer.Spent; clock = k; actor = with_txn a None },
  (λ i. for_none (begins k a) (no_txn s.work a.txn fit.work idle i)) ∙ rw (fit.row ∙ opened, eq-eqb k.next_tid number_end spent) refl,
  refl,
  sym after,
  record { row = fit.row; work = subst (λ o. IsWorkOf s.work o) (no_txn s.work a.txn fit.work idle) fit.work; finished = fit.finished; leads = fit.leads },
)

-- the work with the number that was drawn
drawn_work : (t : Work) (x : Transaction) (v n : ℕ) (spells : Spells t.spelling t.changes) → v ≡ n → IsWork t x → IsWork (record t { drawn = Some v; spelled = spells }) (record x { drawn = n ∷ x.drawn })
drawn_work t x v n spells same work = record {
  tid = work.tid;
  read = work.read;
  stage = work.stage;
  own = work.own;
  drawn = λ w is. or_left (n == w) (has_number w x.drawn) (eq-eqb n w (let e : v ≡ w = (cc) in sym same ∙ e));
  touched = work.touched;
  changed = work.changed;
  settled = work.settled;
  working = work.working;
  left = work.left;
}

pub does_draw : (k k' : Clock) (s : Session) (t : Work) (v : ℕ) (spells : Spells t.spelling t.changes) → Works s t → (k.next_vertex ≡ number_end → ⊥) → v ≡ k.next_vertex → k' ≡ drawn_clock k
    → DoesClock (λ _. act.Draw) k s (Some (answer.Number v)) k' (record s { work = Some (record t { drawn = Some v; spelled = spells }) })
does_draw k k' s t v spells at more number after_draw a fit =
    let f = txn_of s.work t a.txn fit.work at.is in
    let x = f.0 in
    let t' : Work = record t { drawn = Some v; spelled = spells } in
    let x' : Transaction = record x { drawn = k.next_vertex ∷ x.drawn } in
    let after : Actor = record a { txn = Some x'; looked = None; drew = k.next_vertex ∷ a.drew } in (
      record { answer = answer.Number k.next_vertex; clock = drawn_clock k; actor = after },
      ap (for_txn (λ y. draws y k a)) f.1 ∙ rw (works t x f.2 at.stage at.settled, ne_eqb k.next_vertex number_end more) refl,
      (λ i. answer.Number (sym number i)),
      sym after_draw,
      session_with s (record s { work = Some t' }) t' a after x' fit refl refl refl (beside a after refl refl refl refl) refl
          (drawn_work t x v k.next_vertex spells number f.2),
    )

pub does_draw_spent : (k k' : Clock) (s : Session) (t : Work) → Works s t → k.next_vertex ≡ number_end → k' ≡ k → DoesClock (λ _. act.Draw) k s (Some answer.Spent) k' s
does_draw_spent k k' s t at spent after a fit =
    let f = txn_of s.work t a.txn fit.work at.is in
    let x = f.0 in (
      record { answer = answer.Spent; clock = k; actor = with_txn a (Some x) },
      ap (for_txn (λ y. draws y k a)) f.1 ∙ rw (works t x f.2 at.stage at.settled, eq-eqb k.next_vertex number_end spent) refl,
      refl,
      sym after,
      still s t a (with_txn a (Some x)) x fit at.is (beside a (with_txn a (Some x)) refl refl refl refl) refl f.2,
    )

pub does_end : (k k' : Clock) (s : Session) (t : Work) → s.work ≡ Some t → IsLost t → IsFree t → k' ≡ ended_clock t.tid k → DoesClock (λ _. act.End) k s (Some answer.Done) k' (record s { work = None })
does_end k k' s t is lost free after a fit =
    let f = txn_of s.work t a.txn fit.work is in
    let x = f.0 in
    let loser : is_loser x.stage ≡ true = ap is_loser f.2.stage ∙ lost in (
      record { answer = answer.Done; clock = record k { rows = without_active x.tid k.rows }; actor = record a { txn = None; looked = None; receipts = receipt_of x (end_of x.stage a.looked) ∷ a.receipts } },
      ap (for_txn (λ y. ends y k a)) f.1 ∙ rw (loser, all_free t x f.2 free) refl,
      refl,
      ap (λ n. ended_clock n k) f.2.tid ∙ sym after,
      record { row = fit.row; work = tt; finished = fit.finished; leads = fit.leads },
    )
