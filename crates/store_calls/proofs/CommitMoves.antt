-- The events of a commit on the clock, and the session afterwards.
use Rattle.std.proofs.Common.{◌≡◌, ℕ, false, Bool, ◌∷◌, length, refl, sym, ap, ◌∙◌, subst, Option, Some, None}
use Rattle.std.specs.Prelude.{◌==◌, nat_le}
use Rattle.graph_model.specs.declared.record.Outcome.{Outcome}
use Rattle.graph_model.specs.declared.record.Record.{Record}
use Rattle.core_states.specs.declared.actor.Actor.{Actor}
use Rattle.core_states.specs.declared.actor.Learnt.{Learnt}
use Rattle.core_states.specs.declared.clock.Clock.{Clock}
use Rattle.core_states.specs.declared.event.Act.TheVariants as act
use Rattle.core_states.specs.declared.event.CoreAnswer.TheVariants as answer
use Rattle.core_states.specs.declared.transaction.End.TheVariants.{CommittedAt}
use Rattle.core_states.specs.declared.transaction.Stage.TheVariants.{Open, Queued}
use Rattle.core_states.specs.declared.transaction.Transaction.{Transaction}
use Rattle.core_states.specs.ClockEvents.{enqueues, hears, done_at, sees, learn, told_learnt, queued_record, for_txn, for_none}
use Rattle.core_states.specs.Numbers.{outcome_of}
use Rattle.core_states.specs.Transactions.{with_txn, with_stage, is_queued, won_epoch, after_outcome, receipt_of}
use Rattle.group_commit.specs.Encoded.{Spells}
use Rattle.epoch_clock.specs.ClockCalls.{queued_clock, finished_clock}
use Rattle.store_turns.specs.declared.session.Session.{Session}
use Rattle.store_turns.specs.declared.session.Work.{Work}
use Rattle.store_turns.specs.Fits.{IsWork, DoesClock}
use Rattle.store_turns.specs.Moves.{Works, Waits, Won, IsFree, IsQueuedOf, heard_stage}
use Rattle.store_turns.proofs.Sessions.{no_txn, txn_of, works, all_free, session_with, beside}
use Rattle.store_calls.proofs.Works.{waits_still}

-- the record of a transaction's changes
abbrev record_of : Work → Record
record_of t = record { tid = t.tid; read = t.read; epoch = 0; changes = t.changes }

-- it is the one that the core queues
same_record : (t : Work) (x : Transaction) → IsWork t x → t.stage ≡ Open → queued_record x ≡ record_of t
same_record t x work working = λ i. record { tid = work.tid i; read = work.read i; epoch = 0; changes = work.own working i }

-- what waits for its outcome is the work still
queued_work : (t t' : Work) (x : Transaction) → IsQueuedOf t t' → t'.drawn ≡ t.drawn → t'.left ≡ t.left → IsWork t x → IsWork t' (with_stage x Queued)
queued_work t t' x queued drawn left work = record {
  tid = work.tid ∙ sym queued.tid;
  read = work.read ∙ sym queued.read;
  stage = sym queued.stage;
  own = λ is_open. absurd (let is = queued.stage in let e : ⊥ = (cc) in e);
  drawn = λ v is. work.drawn v (sym drawn ∙ is);
  touched = λ v. rw queued.touched (work.touched v);
  changed = λ v. rw queued.touched (work.changed v);
  settled = λ v. rw (queued.touched, queued.settled) (work.settled v);
  working = λ none_settled. work.working (sym queued.settled ∙ none_settled);
  left = rw left work.left;
}

-- the record is queued
pub does_enqueue : (k k' : Clock) (s : Session) (t t' : Work) (l : Learnt) → Works s t → (length t.changes == 0) ≡ false → IsQueuedOf t t' → t'.drawn ≡ t.drawn → t'.left ≡ t.left → l ≡ learn k → k' ≡ queued_clock (record_of t) k
    → DoesClock (λ _. act.Enqueue) k s (Some (answer.Learnt l.horizon l.oldest)) k' (record s { work = Some t' })
does_enqueue k k' s t t' l at some_changes queued drawn left learnt after a fit =
    let f = txn_of s.work t a.txn fit.work at.is in
    let x = f.0 in
    let after_actor : Actor = record a { txn = Some (with_stage x Queued); learnt = learn k; looked = None } in (
      record { answer = told_learnt (learn k); clock = queued_clock (queued_record x) k; actor = after_actor },
      ap (for_txn (λ y. enqueues y k a)) f.1 ∙ rw (works t x f.2 at.stage at.settled, ap (λ cs. length cs == 0) (f.2.own at.stage) ∙ some_changes) refl,
      ap told_learnt (sym learnt),
      ap (λ r. queued_clock r k) (same_record t x f.2 at.stage) ∙ sym after,
      session_with s (record s { work = Some t' }) t' a after_actor (with_stage x Queued) fit refl refl refl (beside a after_actor refl refl refl refl) refl (queued_work t t' x queued drawn left f.2),
    )

-- what has heard of an outcome is the work still
heard_work : (t : Work) (x : Transaction) (o : Option Outcome) (spells : Spells t.spelling t.changes) → t.stage ≡ Queued → IsWork t x → IsWork (record t { stage = heard_stage o; spelled = spells }) (after_outcome x o)
heard_work t x None spells queued work = record {
  tid = work.tid;
  read = work.read;
  stage = work.stage ∙ queued;
  own = λ is_open. absurd (let e : ⊥ = (cc) in e);
  drawn = work.drawn;
  touched = work.touched;
  changed = work.changed;
  settled = work.settled;
  working = work.working;
  left = work.left;
}
heard_work t x (Some o) spells queued work = record {
  tid = work.tid;
  read = work.read;
  stage = refl;
  own = λ is_open. absurd (let e : ⊥ = (cc) in e);
  drawn = work.drawn;
  touched = work.touched;
  changed = work.changed;
  settled = work.settled;
  working = work.working;
  left = work.left;
}

-- the outcome is asked for, and noted where there is one
pub does_hear : (k k' : Clock) (s : Session) (t : Work) (o : Option Outcome) (spells : Spells t.spelling t.changes) → Waits s t → o ≡ outcome_of t.tid k.outcomes → k' ≡ k
    → DoesClock (λ _. act.Outcome) k s (Some (answer.Kept o)) k' (record s { work = Some (record t { stage = heard_stage o; spelled = spells }) })
does_hear k k' s t o spells at kept after a fit =
    let f = txn_of s.work t a.txn fit.work at.is in
    let x = f.0 in
    let heard : outcome_of x.tid k.outcomes ≡ o = ap (λ n. outcome_of n k.outcomes) f.2.tid ∙ sym kept in
    let t' : Work = record t { stage = heard_stage o; spelled = spells } in
    let after_actor : Actor = with_txn a (Some (after_outcome x o)) in (
      record { answer = answer.Kept o; clock = k; actor = after_actor },
      ap (for_txn (λ y. hears y k a)) f.1 ∙ rw (ap is_queued (f.2.stage ∙ at.stage), heard) refl,
      refl,
      sym after,
      session_with s (record s { work = Some t' }) t' a after_actor (after_outcome x o) fit refl refl refl (beside a after_actor refl refl refl refl) refl (heard_work t x o spells at.stage f.2),
    )

-- and where there is none the session is as it was
pub does_hear_none : (k k' : Clock) (s : Session) (t : Work) → Waits s t → None ≡ outcome_of t.tid k.outcomes → k' ≡ k → DoesClock (λ _. act.Outcome) k s (Some (answer.Kept None)) k' s
does_hear_none k k' s t at kept after =
    subst (λ s'. DoesClock (λ _. act.Outcome) k s (Some (answer.Kept None)) k' s') (sym (waits_still s t at)) (does_hear k k' s t None t.spelled at kept after)

-- the record is done
pub does_finish : (k k' : Clock) (s : Session) (t : Work) (e : ℕ) → Won s t e → IsFree t → k' ≡ finished_clock t.tid k
    → DoesClock (λ _. act.Done) k s (Some answer.Done) k' (record s { finished = Some e; work = None })
does_finish k k' s t e won free after a fit =
    let f = txn_of s.work t a.txn fit.work won.is in
    let x = f.0 in (
      record { answer = answer.Done; clock = finished_clock x.tid k; actor = record a { txn = None; looked = None; finished = Some e; receipts = receipt_of x (CommittedAt e) ∷ a.receipts } },
      ap (for_txn (λ y. done_at (won_epoch y.stage) y k a)) f.1 ∙ rw (ap won_epoch (f.2.stage ∙ won.stage), all_free t x f.2 free) refl,
      refl,
      ap (λ n. finished_clock n k) f.2.tid ∙ sym after,
      record { row = fit.row; work = tt; finished = refl; leads = fit.leads },
    )

-- it is asked whether the epoch is visible
pub does_see : (k : Clock) (s : Session) (e : ℕ) (b : Bool) → s.work ≡ None → s.finished ≡ Some e → b ≡ nat_le e k.visible → DoesClock (λ _. act.Seen) k s (Some (answer.Visible b)) k s
does_see k s e b idle finished seen a fit =
    let none = no_txn s.work a.txn fit.work idle in (
      record { answer = answer.Visible (nat_le e k.visible); clock = k; actor = with_txn a a.txn },
      (λ i. for_none (sees a.finished k a) (none i)) ∙ (λ i. sees ((fit.finished ∙ finished) i) k a),
      ap answer.Visible (sym seen),
      refl,
      record { row = fit.row; work = fit.work; finished = fit.finished; leads = fit.leads },
    )
