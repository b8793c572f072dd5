-- The clock after each call is the one that the core's event leaves.
use Rattle.std.proofs.Common.{ℕ, ◌≡◌, ◌+◌, ◌<◌, ◌≤◌, ◌∙◌, Bool, true, false, List, length, take, Option, Some, None, refl, sym, ap, subst, arith}
use Rattle.std.specs.Prelude.{◌==◌, Result, Ok, Err, OnOk}
use Rattle.std.proofs.lemmas.Bool.{ne_eqb, lt-ltb, le-leb}
use Rattle.graph_model.specs.Records.{number_end, group_most}
use Rattle.graph_model.specs.declared.record.Record.{Record}
use Rattle.graph_model.specs.declared.record.Outcome.{Outcome}
use Rattle.core_states.specs.declared.actor.Learnt.{Learnt}
use Rattle.core_states.specs.declared.clock.Clock.{Clock}
use Rattle.core_states.specs.declared.event.CoreAnswer.TheVariants as answer
use Rattle.core_states.specs.ClockEvents.{learn, told_learnt}
use Rattle.core_states.specs.Numbers.{outcome_of}
use Rattle.epoch_clock.specs.ClockCalls.{begun_clock, queued_clock, collected_clock, published_clock, failed_clock, finished_clock, ended_clock}
use Rattle.epoch_clock.specs.Events.{OpensRow, ClosesRow, BeginsTransaction, Enqueues, Hears, Finishes, EndsWithout, Asks, Collects, Publishes, Fails}

module _ (k new : Clock) where
  pub opens_is : new ≡ k → OpensRow k answer.Done new
  opens_is e a row = rw row (refl, sym e)

  pub closes_is : new ≡ k → ClosesRow k answer.Done new
  closes_is e a row idle = rw (idle, row) (refl, sym e)

  pub begins_is : (tid read : ℕ) → tid ≡ k.next_tid → read ≡ k.visible → (k.next_tid ≡ number_end → ⊥) → new ≡ begun_clock k → BeginsTransaction k (answer.Begun tid read) new
  begins_is tid read own at left e a row idle = rw (idle, row, ne_eqb k.next_tid number_end left) ((λ i. answer.Begun (sym own i) (sym at i)), sym e)

  pub enqueues_is : (r : Record) (l : Learnt) → l ≡ learn k → new ≡ queued_clock r k → Enqueues r k (told_learnt l) new
  enqueues_is r l told e a x is works some own = rw (is, works, some) (ap told_learnt (sym told), ap (λ (q : Record). queued_clock q k) own ∙ sym e)

  pub finishes_is : (t : ℕ) → new ≡ finished_clock t k → Finishes t k answer.Done new
  finishes_is t same a x e is won all own = rw (is, won, all) (refl, ap (λ (u : ℕ). finished_clock u k) own ∙ sym same)

  pub ends_is : (t : ℕ) → new ≡ ended_clock t k → EndsWithout t k answer.Done new
  ends_is t e a x is loses all own = rw (is, loses, all) (refl, ap (λ (u : ℕ). ended_clock u k) own ∙ sym e)

  pub collects_is : (group : List Record) (n : ℕ) → 0 < length k.queue → group ≡ take group_most k.queue → n ≡ length group → new ≡ collected_clock k → Collects group k (answer.Collected n) new
  collects_is group n some is many e i log a free =
      rw (free, ne_eqb (length k.queue) 0 (λ none. omega arith)) ((ap answer.Collected (sym (many ∙ ap length is)), sym e), sym is)

  pub publishes_is : (moment : ℕ) (group : List Record) (n : ℕ) → n ≡ k.last + 1 → new ≡ published_clock moment group k → Publishes moment group k (answer.Published n) new
  publishes_is moment group n is e i log a holds written own at = rw (holds, written) (ap answer.Published (sym is), (λ j. published_clock (at j) (own j) k) ∙ sym e)

  pub fails_is : (before after : ℕ) (group : List Record) → new ≡ failed_clock before after group k → Fails before after group k answer.Done new
  fails_is before after group e i log a holds written own rose greatest =
      rw (holds, written, lt-ltb before after rose, le-leb log.greatest before greatest) (refl, ap (λ (rs : List Record). failed_clock before after rs k) own ∙ sym e)

-- what is only asked
pub hears_is : (t : ℕ) (k : Clock) (o : Option Outcome) → o ≡ outcome_of t k.outcomes → Hears t k (answer.Kept o) k
hears_is t k o told a x is waits own = rw (is, waits) (ap (λ (u : ℕ). answer.Kept (outcome_of u k.outcomes)) own ∙ ap answer.Kept (sym told), refl)

pub asks_is : (k : Clock) (l : Learnt) → l ≡ learn k → Asks k (told_learnt l) k
asks_is k l told a = (ap told_learnt (sym told), refl)
