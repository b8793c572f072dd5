-- What the clock of a kept state knows of an actor.
use Rattle.std.specs.Prelude.{◌≡◌, ℕ, ◌++◌, true, false, Some, None}
use Rattle.core_states.specs.declared.actor.Actor.{Actor}
use Rattle.core_states.specs.declared.clock.Clock.{Clock}
use Rattle.core_states.specs.declared.transaction.Transaction.{Transaction}
use Rattle.core_states.specs.Numbers.{outcome_of, has_record}
use Rattle.core_states.specs.Transactions.{is_working, is_loser, won_epoch}
use Rattle.epoch_clock.specs.ActiveRows.{is_running}
use Rattle.epoch_clock.specs.Decided.{Awaited, is_lost}

-- The clock knows a transaction that runs: while it works, or has failed, it has no record and none waits; once its record is published, it is not done.
pub record Knows (k : Clock) (x : Transaction) : Type 0 where
  pub runs : is_running x.tid k.rows ≡ true
  pub undecided : is_working x ≡ true → outcome_of x.tid k.outcomes ≡ None
  pub lost : is_loser x.stage ≡ true → is_lost (outcome_of x.tid k.outcomes) ≡ true
  pub not_queued : is_loser x.stage ≡ true → has_record x.tid k.queue ≡ false
  pub undone : (e : ℕ) → won_epoch x.stage ≡ Some e → is_running x.tid k.pending ≡ true

-- It knows an actor: its transaction, and the records that it collected.
pub record KnowsActor (k : Clock) (a : Actor) : Type 0 where
  pub txn : (x : Transaction) → a.txn ≡ Some x → Knows k x
  pub group : Awaited k.rows k.outcomes (a.group ++ k.queue)
