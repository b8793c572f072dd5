-- What a leader's session knows, and what it knows of the clock.
use Rattle.std.proofs.Common.{◌≡◌, ℕ, ◌+◌, inl, inr, Bool, true, false, List, ◌∷◌, ◌++◌, length, refl, sym, ap, ◌∙◌, subst, arith, Option, None, Some}
use Rattle.std.specs.Prelude.{if◌then◌else◌}
use Rattle.graph_model.specs.declared.record.Outcome.{Outcome}
use Rattle.graph_model.specs.declared.record.Record.{Record}
use Rattle.core_states.specs.declared.actor.Actor.{Actor}
use Rattle.core_states.specs.declared.clock.Clock.{Clock}
use Rattle.core_states.specs.declared.transaction.Stage.TheVariants.{Open, Decided}
use Rattle.core_states.specs.declared.transaction.Transaction.{Transaction}
use Rattle.core_states.specs.LogEvents.{told, without_group}
use Rattle.core_states.specs.Numbers.{has_record}
use Rattle.core_states.specs.Parts.{Part, OfShard, OfClock, OfLog, state_of_parts}
use Rattle.core_states.specs.Transactions.{with_stage}
use Rattle.clock_facts.specs.Known.{KnowsActor}
use Rattle.clock_facts.proofs.Clock.{knows}
use Rattle.epoch_clock.specs.Decided.{Awaited}
use Rattle.turn_board.specs.Turns.{Told, turn_part}
use Rattle.turn_board.specs.Views.{Held, View, EachHeld}
use Rattle.turn_board.proofs.Steps.{part_clock}
use Rattle.store_turns.specs.declared.session.Session.{Session}
use Rattle.store_turns.specs.declared.session.Work.{Work}
use Rattle.store_turns.specs.Fits.{IsWork, IsWorkOf, IsSessionOf, name_in}
use Rattle.store_leads.specs.Endings.{own_in, told_if}
use Rattle.store_leads.specs.Leads.{actor_in, collecting, OutcomeTold, KnowsMore}

-- ---- the session

told_work : (o : Outcome) (t : Work) (x : Transaction) → IsWork t x → IsWork (record t { stage = Decided o }) (with_stage x (Decided o))
told_work o t x work = record {
  tid = work.tid;
  read = work.read;
  stage = refl;
  own = λ (e : Decided o ≡ Open). absurd (let bad : ⊥ = (cc) in bad);
  drawn = work.drawn;
  touched = work.touched;
  changed = work.changed;
  settled = work.settled;
  working = work.working;
  left = work.left;
}

told_of : (o : Outcome) (rs : List Record) (w : Option Work) (x : Option Transaction) → IsWorkOf w x → IsWorkOf (told_if (own_in rs w) o w) (told o rs x)
told_of o rs None None fits = tt
told_of o rs None (Some x) fits = absurd fits
told_of o rs (Some t) None fits = absurd fits
told_of o rs (Some t) (Some x) fits = by_own (has_record t.tid rs) (has_record x.tid rs) (ap (λ n. has_record n rs) (sym fits.tid))
  where
    by_own : (b c : Bool) → b ≡ c → IsWorkOf (told_if b o (Some t)) (if c then Some (with_stage x (Decided o)) else Some x)
    by_own true true same = told_work o t x fits
    by_own false false same = fits
    by_own true false same = absurd (let bad : ⊥ = (cc) in bad)
    by_own false true same = absurd (let bad : ⊥ = (cc) in bad)

-- the session knows what its actor knows once the group that it collected has ended
pub ended_fits : (s s' : Session) (a : Actor) (o : Outcome) (rs : List Record) → IsSessionOf s a → s' ≡ record s { work = told_if (own_in rs s.work) o s.work } → IsSessionOf s' (without_group o (collecting rs a))
ended_fits s s' a o rs fit is = subst (λ z. IsSessionOf z (without_group o (collecting rs a))) (sym is) (record {
  row = fit.row;
  work = told_of o rs s.work a.txn fit.work;
  finished = fit.finished;
  leads = (refl, refl);
})

-- and knows no more
pub knows_more : (s s' : Session) (o : Outcome) (rs : List Record) → s' ≡ record s { work = told_if (own_in rs s.work) o s.work } → KnowsMore s s'
knows_more s s' o rs is = record {
  rest = is ∙ ap (λ w. record s { work = w }) (sym (ap (λ (z : Session). z.work) is));
  work = subst (λ w. OutcomeTold s.work w) (sym (ap (λ (z : Session). z.work) is)) (by_work s.work (own_in rs s.work));
}
  where
    by_work : (w : Option Work) (b : Bool) → OutcomeTold w (told_if b o w)
    by_work None b = inl refl
    by_work (Some t) true = inr (t, o, refl, refl)
    by_work (Some t) false = inl refl

-- ---- the clock

clock_or : Clock → Part → Clock
clock_or k (OfShard rows) = k
clock_or k (OfClock c) = c
clock_or k (OfLog log) = k

-- the records that the actor has collected wait, and so do those of the queue
pub awaited : (shards turns : ℕ) (v : View) (index : ℕ) (k : Clock) (hs : List Held) (rs : List Record) → shards + 2 ≡ turns → Told turns v → v.held ≡ record { turn = shards; part = OfClock k } ∷ hs → (actor_in v index).group ≡ rs → Awaited k.rows k.outcomes (rs ++ k.queue)
unfolding clock_or
awaited shards turns v index k hs rs many told front gathered =
    let parts = told.parts in
    let here : parts.clock ≡ k = ap (clock_or k) (sym (part_clock parts shards (same_count shards (length parts.shards) turns many told.turns_are)) ∙ held told) in
    let actor : KnowsActor parts.clock (actor_in v index) = subst (λ a. KnowsActor parts.clock a) (told.own (name_in v index) (inl refl)).0 (knows v.base parts.limits (state_of_parts v.base parts) (name_in v index) told.reached.kept) in
    subst (λ (z : Clock × List Record). Awaited z.0.rows z.0.outcomes (z.1 ++ z.0.queue)) (λ i. (here i, gathered i)) actor.group
  where
    same_count : (a b n : ℕ) → a + 2 ≡ n → b + 2 ≡ n → a ≡ b
    same_count a b n x y = omega (arith, x, y)

    held : (t : Told turns v) → turn_part t.parts shards ≡ OfClock k
    held t = (subst (λ gs. EachHeld (λ j p. turn_part t.parts j ≡ p) gs) front t.held).0
