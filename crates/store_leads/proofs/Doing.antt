-- What several events of one actor leave, while its pass holds the log's turn and the clock's.
use Rattle.std.proofs.Common.{◌≡◌, ℕ, ◌+◌, ◌-◌, inl, List, [], ◌∷◌, refl, sym, ap, ◌∙◌, subst, Some}
use Rattle.core_calls.specs.Events.{Told}
use Rattle.core_states.specs.declared.actor.Actor.{Actor}
use Rattle.core_states.specs.declared.clock.Clock.{Clock}
use Rattle.core_states.specs.declared.event.Reach.TheVariants as reach
use Rattle.core_states.specs.Laters.{Later}
use Rattle.core_states.specs.LogEvents.{LogMove, GroupMove}
use Rattle.core_states.specs.LogParts.{LogPart}
use Rattle.core_states.specs.Moves.{log_move, group_move}
use Rattle.core_states.specs.Names.{Name}
use Rattle.core_states.specs.Parts.{OfClock, actor_of}
use Rattle.core_states.specs.States.{log_event, group_event, reach_of}
use Rattle.turn_board.specs.Ones.{DoesOne, going_on_log}
use Rattle.turn_board.specs.Turns.{IsNewest}
use Rattle.turn_board.specs.Views.{Did, Held, View, EachSeen, taking, behind}
use Rattle.turn_board.specs.Works.{Leads, giving, IsLeft, clocks_after}
use Rattle.core_laws.proofs.Actors.{actor_here, actor_there}
use Rattle.turn_board.proofs.Ones.{group_leads, log_first_leads}
use Rattle.store_turns.specs.Grows.{Went, done_by}
use Rattle.store_turns.proofs.Growing.{seen_still, went_on}
use Rattle.store_turns.proofs.ClockSteps.{two_less}
use Rattle.store_leads.specs.Endings.{dones}
use Rattle.store_leads.specs.Leads.{log_held, both_held}

-- The events lead to this clock, and to these turns that are held still, and leave the actor so.
pub record Does (shards : ℕ) (v : View) (n : Name) (ts : List Told) (k : Clock) (hs : List Held) (a : Actor) : Type 0 where
  pub leads : Leads shards v (dones n ts) (OfClock k)
  pub went : IsNewest (OfClock k) v → Went n ts hs v (giving (dones n ts) v)
  pub actor : actor_of v.base (giving (dones n ts) v).actors n ≡ a

module _ (shards : ℕ) (n : Name) where
  -- no event
  pub does_none : (v : View) (k : Clock) (log : LogPart) → v.held ≡ both_held shards k log → Does shards v n [] k (log_held shards log) (actor_of v.base v.actors n)
  does_none v k log front = record {
    leads = (tt, subst (λ hs. IsLeft v.base (OfClock k) hs) (sym front) refl);
    went = λ newest. record {
      notes = [];
      are = (refl, refl);
      events = refl;
      others = λ m ne. refl;
      held = ap (λ hs. behind hs) front;
      same = refl;
      seen = λ c all. seen_still (OfClock k) v newest c (subst (λ hs. EachSeen (λ x. Later x c) (clocks_after hs v.seen)) front all);
    };
    actor = refl;
  }

  does_one : (v : View) (t : Told) (k : Clock) (hs : List Held) (a : Actor) → DoesOne shards v (done_by n t) (OfClock k) hs a → Does shards v n (t ∷ []) k hs a
  does_one v t k hs a d = record {
    leads = d.leads;
    went = λ newest. record {
      notes = Did (done_by n t) a ∷ [];
      are = (a, [], refl, (refl, d.actor));
      events = d.notes;
      others = d.others;
      held = d.held;
      same = refl;
      seen = λ c all. seen_still (OfClock k) v newest c (subst (λ z. EachSeen (λ x. Later x c) z) d.seen all);
    };
    actor = d.actor;
  }

  -- an event on the log part and the clock
  pub does_group : (v : View) (t : Told) (k : Clock) (log : LogPart) (a : Actor) (m : GroupMove) → n.pass ≡ v.number → v.held ≡ both_held shards k log → actor_of v.base v.actors n ≡ a → reach_of t.act ≡ reach.LogAndClock
      → group_event t.act n log k a ≡ Some m → m.answer ≡ t.says → Does shards v n (t ∷ []) m.clock (log_held shards m.log) m.actor
  does_group v t k log a m own front actor at is says = does_one v t m.clock (log_held shards m.log) m.actor
      (group_leads shards v log k (done_by n t) m (inl (sym own)) front at ((λ i. group_move log k (actor i) (group_event t.act n log k (actor i))) ∙ ap (λ z. group_move log k a z) is) (sym says))

  -- an event on the log part, and more behind it
  pub does_log : (v : View) (t : Told) (k k' : Clock) (log : LogPart) (a : Actor) (m : LogMove) (ts : List Told) (hs : List Held) (b : Actor) → n.pass ≡ v.number → v.held ≡ both_held shards k log → actor_of v.base v.actors n ≡ a → reach_of t.act ≡ reach.Log
      → log_event t.act n log a ≡ Some m → m.answer ≡ t.says → Does shards (going_on_log shards k m (done_by n t) v) n ts k' hs b → Does shards v n (t ∷ ts) k' hs b
  does_log v t k k' log a m ts hs b own front actor at is says next = record {
    leads = both.0;
    went = λ newest. subst (λ z. Went n (t ∷ ts) hs v z) (sym both.1) (went_on n (t ∷ []) ts mid.held hs v mid (giving (dones n ts) mid) first (next.went newest));
    actor = ap (λ (z : View). actor_of z.base z.actors n) both.1 ∙ next.actor;
  }
    where
      mid : View
      mid = going_on_log shards k m (done_by n t) v

      here : actor_of v.base mid.actors n ≡ m.actor
      here = actor_here v.base (record { name = n; actor = m.actor }) v.actors n refl

      both : Leads shards v (dones n (t ∷ ts)) (OfClock k') × (giving (dones n (t ∷ ts)) v ≡ giving (dones n ts) mid)
      both = log_first_leads shards v log k (done_by n t) m (dones n ts) (OfClock k') (inl (sym own)) front at ((λ i. log_move log (actor i) (log_event t.act n log (actor i))) ∙ ap (λ z. log_move log a z) is) (sym says) next.leads

      first : Went n (t ∷ []) mid.held v mid
      first = record {
        notes = Did (done_by n t) m.actor ∷ [];
        are = (m.actor, [], refl, (refl, here));
        events = refl;
        others = λ o ne. actor_there v.base (record { name = n; actor = m.actor }) v.actors o ne;
        held = refl;
        same = refl;
        seen = λ c all. all;
      }

-- The same of a pass that took the clock's turn, and gave it back.
module _ (shards : ℕ) (n : Name) (v took new : View) (k0 k : Clock) (ts : List Told) (hs : List Held) (a : Actor) (taken : took ≡ taking shards (OfClock k0) v) (does : Does shards (taking shards (OfClock k0) v) n ts k hs a) where
  pub gives_went : new ≡ giving (dones n ts) took → IsNewest (OfClock k) took → Went n ts hs v new
  gives_went given newest = let w = does.went (subst (λ z. IsNewest (OfClock k) z) taken newest) in
      subst (λ z. Went n ts hs v z) (sym (given ∙ ap (λ z. giving (dones n ts) z) taken))
      (record { notes = w.notes; are = w.are; events = w.events; others = w.others; held = w.held; same = w.same; seen = w.seen })

  pub gives_actor : new ≡ giving (dones n ts) took → actor_of new.base new.actors n ≡ a
  gives_actor given = ap (λ (z : View). actor_of z.base z.actors n) (given ∙ ap (λ z. giving (dones n ts) z) taken) ∙ does.actor

  pub leads_took : (turns : ℕ) → shards + 2 ≡ turns → Leads (turns - 2) took (dones n ts) (OfClock k)
  leads_took turns many = subst (λ (z : ℕ × View). Leads z.0 z.1 (dones n ts) (OfClock k)) (λ i. (two_less shards turns many i, sym taken i)) does.leads
