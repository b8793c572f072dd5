-- What the clock of a kept state knows of an actor.
use Rattle.std.proofs.Common.{◌≡◌, ℕ, Bool, true, false, List, [], ◌∷◌, ◌++◌, Some, None, refl, ap, sym, ◌∙◌, subst, arith, append-nil}
use Rattle.std.specs.Prelude.{◌==◌, ◌&&◌}
use Rattle.std.proofs.lemmas.Bool.Decides.{nat_tests}
use Rattle.graph_model.specs.declared.graph.Base.{Base}
use Rattle.graph_model.specs.declared.record.Record.{Record}
use Rattle.graph_model.specs.declared.record.Outcome.TheVariants.{Committed, Failed}
use Rattle.core_states.specs.declared.clock.Active.{Active}
use Rattle.core_states.specs.declared.transaction.Stage.{Stage}
use Rattle.core_states.specs.declared.transaction.Stage.TheVariants.{Open, Queued, Decided}
use Rattle.core_states.specs.declared.transaction.Transaction.{Transaction}
use Rattle.core_states.specs.declared.actor.Actor.{Actor}
use Rattle.core_states.specs.Names.{Name}
use Rattle.core_states.specs.Numbers.{has_active, has_record}
use Rattle.core_states.specs.RowEvents.{Limits}
use Rattle.core_states.specs.States.{State}
use Rattle.core_states.specs.Transactions.{is_loser, is_open, won_epoch}
use Rattle.core_kept.specs.Bounds.{Kept}
use Rattle.core_kept.specs.Good.{Place, Nowhere, InQueue, InGroup, InLog, InFault, Ghost, Good, StageOk, AllWait, outcome_at}
use Rattle.epoch_clock.specs.ActiveRows.{is_running}
use Rattle.epoch_clock.specs.Decided.{Awaited, is_lost}
use Rattle.clock_facts.specs.Known.{Knows, KnowsActor}

-- an active transaction runs
running : (t e : ℕ) (xs : List Active) → has_active t e xs ≡ true → is_running t xs ≡ true
running t e [] h = absurd (cc)
running t e (x ∷ xs) h = by_test (x.tid == t) refl (running t e xs)
  where
    by_test : (b : Bool) → (x.tid == t) ≡ b → (has_active t e xs ≡ true → is_running t xs ≡ true) → is_running t (x ∷ xs) ≡ true
    by_test true is more = rw is refl
    by_test false is more =
        let rest : has_active t e xs ≡ true = rw is at h in
        rw is (more rest)

-- where the record of a transaction is that works, or has none
working_place : (stage : Stage) (b : Bool) (settled : List ℕ) (p : Place) → (is_open stage && b) ≡ true → StageOk stage settled p → p ≡ Nowhere
working_place Open b settled p works ok = ok
working_place Queued b settled p works ok = absurd (cc)
working_place (Decided (Committed e)) b settled p works ok = absurd (cc)
working_place (Decided (Failed m n)) b settled p works ok = absurd (cc)

lost_place : (stage : Stage) (settled : List ℕ) (p : Place) → is_loser stage ≡ true → StageOk stage settled p → is_lost (outcome_at p) ≡ true
lost_place Open settled p loses ok = rw ok refl
lost_place Queued settled p loses ok = absurd (cc)
lost_place (Decided (Committed e)) settled p loses ok = absurd (cc)
lost_place (Decided (Failed m n)) settled p loses ok = rw ok refl

not_in_queue : (stage : Stage) (settled : List ℕ) (p : Place) → is_loser stage ≡ true → StageOk stage settled p → p ≡ InQueue → ⊥
not_in_queue Open settled p loses ok is = let e : Nowhere ≡ InQueue = sym ok ∙ is in (cc)
not_in_queue Queued settled p loses ok is = absurd (cc)
not_in_queue (Decided (Committed e)) settled p loses ok is = absurd (cc)
not_in_queue (Decided (Failed m n)) settled p loses ok is = let e : InFault m n ≡ InQueue = sym ok ∙ is in (cc)

won_place : (stage : Stage) (settled : List ℕ) (p : Place) (e : ℕ) → won_epoch stage ≡ Some e → StageOk stage settled p → p ≡ InLog e
won_place Open settled p e won ok = absurd (cc)
won_place Queued settled p e won ok = absurd (cc)
won_place (Decided (Committed f)) settled p e won ok = let same : f ≡ e = (cc) in ok ∙ ap InLog same
won_place (Decided (Failed m n)) settled p e won ok = absurd (cc)

-- a transaction whose record is elsewhere has none among those that wait in one place
elsewhere : (g : Ghost) (actor : Name → Actor) (at : Place) (t : ℕ) (rs : List Record) → AllWait g actor at rs → (g.place t ≡ at → ⊥) → has_record t rs ≡ false
elsewhere g actor at t [] wait other = refl
elsewhere g actor at t (r ∷ rs) wait other = by_test (r.tid == t) refl (elsewhere g actor at t rs wait.2 other)
  where
    by_test : (b : Bool) → (r.tid == t) ≡ b → has_record t rs ≡ false → has_record t (r ∷ rs) ≡ false
    by_test true is more =
        let same : r.tid ≡ t = grind (arith, nat_tests, is) in
        absurd (other (ap g.place (sym same) ∙ wait.0.place))
    by_test false is more = rw is more

joined : (t : ℕ) (rs rest : List Record) → has_record t rs ≡ false → has_record t rest ≡ false → has_record t (rs ++ rest) ≡ false
joined t [] rest none more = more
joined t (r ∷ rs) rest none more = by_test (r.tid == t) refl (λ less. joined t rs rest less more)
  where
    by_test : (b : Bool) → (r.tid == t) ≡ b → (has_record t rs ≡ false → has_record t (rs ++ rest) ≡ false) → has_record t (r ∷ rs ++ rest) ≡ false
    by_test true is next = let bad : true ≡ false = rw is at none in absurd (cc)
    by_test false is next =
        let less : has_record t rs ≡ false = rw is at none in
        rw is (next less)

-- the records that wait in one place, before others that wait in another
awaited : (base : Base) (g : Ghost) (s : State) (at : Place) (rs rest : List Record) → Good base g s → AllWait g s.actor at rs → outcome_at at ≡ None →
    ((t : ℕ) → g.place t ≡ at → has_record t rest ≡ false) → Awaited s.clock.rows s.clock.outcomes rest → Awaited s.clock.rows s.clock.outcomes (rs ++ rest)
awaited base g s at [] rest good wait none other are = are
awaited base g s at (r ∷ rs) rest good wait none other are =
    let w = wait.0 in
    let ok = good.txns (g.who r.tid) w.txn w.is in (
      subst (λ (t : ℕ). is_running t s.clock.rows ≡ true) w.tid (running w.txn.tid w.txn.read s.clock.rows ok.row),
      good.outcomes r.tid ∙ ap outcome_at w.place ∙ none,
      joined r.tid rs rest wait.1 (other r.tid w.place),
      awaited base g s at rs rest good wait.2 none other are,
    )

pub knows : (base : Base) (most : Limits) (s : State) (i : Name) → Kept base most s → KnowsActor s.clock (s.actor i)
knows base most s i kept = record {
  txn = λ x at. known x at;
  group = awaited base g s (InGroup i) (s.actor i).group s.clock.queue good (good.groups i) refl (λ t in_group. elsewhere g s.actor InQueue t s.clock.queue good.queue (λ in_queue. apart (sym in_group ∙ in_queue))) queued;
}
  where
    g : Ghost
    g = kept.0.0

    good : Good base g s
    good = kept.0.1

    apart : InGroup i ≡ InQueue → ⊥
    apart e = (cc)

    queued : Awaited s.clock.rows s.clock.outcomes s.clock.queue
    queued = subst (λ (rs : List Record). Awaited s.clock.rows s.clock.outcomes rs) (append-nil s.clock.queue) (awaited base g s InQueue s.clock.queue [] good good.queue refl (λ t at. refl) tt)

    known : (x : Transaction) → (s.actor i).txn ≡ Some x → Knows s.clock x
    known x at =
        let ok = good.txns i x at in
        record {
          runs = running x.tid x.read s.clock.rows ok.row;
          undecided = λ works. good.outcomes x.tid ∙ ap outcome_at (working_place x.stage _ x.settled (g.place x.tid) works ok.stage);
          lost = λ loses. ap is_lost (good.outcomes x.tid) ∙ lost_place x.stage x.settled (g.place x.tid) loses ok.stage;
          not_queued = λ loses. elsewhere g s.actor InQueue x.tid s.clock.queue good.queue (not_in_queue x.stage x.settled (g.place x.tid) loses ok.stage);
          undone = λ e won. running x.tid e s.clock.pending (ok.pending e (won_place x.stage x.settled (g.place x.tid) e won ok.stage));
        }
