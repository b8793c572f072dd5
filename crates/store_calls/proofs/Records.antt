-- What a kept clock has of a session's transaction.
use Rattle.std.proofs.Common.{◌≡◌, ℕ, true, false, List, [], ◌∷◌, refl, sym, ap, ◌∙◌, subst, Some, None}
use Rattle.std.specs.Prelude.{◌==◌}
use Rattle.std.proofs.lemmas.Bool.{ne_eqb, false≢true}
use Rattle.graph_model.specs.declared.record.Record.{Record}
use Rattle.graph_model.specs.declared.record.Outcome.TheVariants.{Committed, Failed}
use Rattle.core_states.specs.declared.actor.Actor.{Actor}
use Rattle.core_states.specs.declared.clock.Clock.{Clock}
use Rattle.core_states.specs.declared.transaction.Stage.{Stage}
use Rattle.core_states.specs.declared.transaction.Stage.TheVariants.{Open, Queued, Decided}
use Rattle.core_states.specs.declared.transaction.Transaction.{Transaction}
use Rattle.core_states.specs.Names.{Name}
use Rattle.core_states.specs.Numbers.{has_active, has_record, outcome_of}
use Rattle.core_states.specs.Transactions.{is_loser}
use Rattle.core_kept.specs.Good.{Ghost, StageOk, Place, InQueue, InLog, AllWait, outcome_at}
use Rattle.epoch_clock.specs.ActiveRows.{is_running}
use Rattle.epoch_clock.specs.Decided.{is_lost}
use Rattle.store_turns.specs.declared.session.Session.{Session}
use Rattle.store_turns.specs.declared.session.Work.{Work}
use Rattle.store_turns.specs.Fits.{IsWork, Known}
use Rattle.store_turns.specs.Moves.{IsLost, Won}
use Rattle.store_turns.proofs.Sessions.{txn_of, running_from}

-- a record whose place is not the queue is none of those that wait there
elsewhere : (g : Ghost) (actor : Name → Actor) (t : ℕ) → (g.place t ≡ InQueue → ⊥) → (rs : List Record) → AllWait g actor InQueue rs → has_record t rs ≡ false
elsewhere g actor t out [] all = refl
elsewhere g actor t out (r ∷ rs) all =
    let other : (r.tid == t) ≡ false = ne_eqb r.tid t (λ same. out (ap g.place (sym same) ∙ all.0.place)) in
    rw other (elsewhere g actor t out rs all.2)

-- a record that was not queued or has failed is not in the queue
not_in_queue : (stage : Stage) (settled : List ℕ) (p : Place) → is_loser stage ≡ true → StageOk stage settled p → p ≡ InQueue → ⊥
not_in_queue Open settled p lost at is = let e : ⊥ = (cc) in e
not_in_queue Queued settled p lost at is = false≢true lost
not_in_queue (Decided (Committed e)) settled p lost at is = false≢true lost
not_in_queue (Decided (Failed b a)) settled p lost at is = let e : ⊥ = (cc) in e

-- and is not published
lost_at : (stage : Stage) (settled : List ℕ) (p : Place) → is_loser stage ≡ true → StageOk stage settled p → is_lost (outcome_at p) ≡ true
lost_at Open settled p lost at = ap (λ q. is_lost (outcome_at q)) at
lost_at Queued settled p lost at = absurd (false≢true lost)
lost_at (Decided (Committed e)) settled p lost at = absurd (false≢true lost)
lost_at (Decided (Failed b a)) settled p lost at = ap (λ q. is_lost (outcome_at q)) at

-- The transaction is one of a good state whose clock this is, and its record is where its stage says.
record IsGoodIn (k : Clock) (t : Work) : Type 0 where
  ghost : Ghost
  actor : Name → Actor
  txn : Transaction
  work : IsWork t txn
  active : has_active t.tid txn.read k.rows ≡ true
  stage : StageOk t.stage txn.settled (ghost.place t.tid)
  pending : (e : ℕ) → ghost.place t.tid ≡ InLog e → has_active t.tid e k.pending ≡ true
  outcome : outcome_of t.tid k.outcomes ≡ outcome_at (ghost.place t.tid)
  queue : AllWait ghost actor InQueue k.queue

module _ (k : Clock) (s : Session) (t : Work) (known : Known k s) (is : s.work ≡ Some t) where
  -- the state in which the session stands for an actor is such a one
  good_in : IsGoodIn k t
  good_in =
      let f = txn_of s.work t (known.state.actor known.name).txn known.fits.work is in
      let g = known.kept.0.0 in
      let good = known.kept.0.1 in
      let ok = good.txns known.name f.0 f.1 in
      record {
        ghost = g;
        actor = known.state.actor;
        txn = f.0;
        work = f.2;
        active = subst (λ (z : ℕ × Clock). has_active z.0 f.0.read z.1.rows ≡ true) (λ i. (f.2.tid i, known.clock i)) ok.row;
        stage = subst (λ (z : Stage × ℕ). StageOk z.0 f.0.settled (g.place z.1)) (λ i. (f.2.stage i, f.2.tid i)) ok.stage;
        pending = subst (λ (z : ℕ × Clock). (e : ℕ) → g.place z.0 ≡ InLog e → has_active z.0 e z.1.pending ≡ true) (λ i. (f.2.tid i, known.clock i)) ok.pending;
        outcome = subst (λ (z : Clock). outcome_of t.tid z.outcomes ≡ outcome_at (g.place t.tid)) known.clock (good.outcomes t.tid);
        queue = subst (λ (z : Clock). AllWait g known.state.actor InQueue z.queue) known.clock good.queue;
      }

  -- it runs
  pub runs_in : is_running t.tid k.rows ≡ true
  runs_in = running_from t.tid good_in.txn.read k.rows good_in.active

  -- where its record was not queued, it has no outcome
  pub undecided_in : t.stage ≡ Open → outcome_of t.tid k.outcomes ≡ None
  undecided_in working = good_in.outcome ∙ ap outcome_at (subst (λ stage. StageOk stage good_in.txn.settled (good_in.ghost.place t.tid)) working good_in.stage)

  -- where its record was not queued or has failed, none is published
  pub lost_in : IsLost t → is_lost (outcome_of t.tid k.outcomes) ≡ true
  lost_in lost = ap is_lost good_in.outcome ∙ lost_at t.stage good_in.txn.settled (good_in.ghost.place t.tid) lost good_in.stage

  -- and none waits
  pub waits_not : IsLost t → has_record t.tid k.queue ≡ false
  waits_not lost = elsewhere good_in.ghost good_in.actor t.tid (not_in_queue t.stage good_in.txn.settled (good_in.ghost.place t.tid) lost good_in.stage) k.queue good_in.queue

  -- where its record is committed, it is not done
  pub undone_in : (e : ℕ) → Won s t e → is_running t.tid k.pending ≡ true
  undone_in e won = running_from t.tid e k.pending (good_in.pending e (subst (λ stage. StageOk stage good_in.txn.settled (good_in.ghost.place t.tid)) won.stage good_in.stage))
