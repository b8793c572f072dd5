-- What a leader's pass knows between its collect and the end of its group.
use Rattle.std.proofs.Common.{◌≡◌, ℕ, ◌+◌, ◌-◌, inl, inr, Bool, true, false, List, [], ◌∷◌, ◌++◌, refl, sym, ap, ◌∙◌, subst, Option, None}
use Rattle.atomic_table.specs.declared.shared.Seat.{Seat}
use Rattle.graph_model.specs.declared.record.Record.{Record}
use Rattle.group_commit.specs.Encoded.{Encoded}
use Rattle.group_commit.specs.Members.{records_at}
use Rattle.core_calls.specs.Events.{Told}
use Rattle.core_states.specs.declared.actor.Actor.{Actor}
use Rattle.core_states.specs.declared.clock.Clock.{Clock}
use Rattle.core_states.specs.LogEvents.{without_group}
use Rattle.core_states.specs.LogParts.{LogPart}
use Rattle.core_states.specs.Names.{Name}
use Rattle.core_states.specs.Parts.{OfClock, actor_of}
use Rattle.epoch_clock.specs.Decided.{Awaited}
use Rattle.turn_board.specs.Board.{known, turns, Knowing, SameSeat}
use Rattle.turn_board.specs.Spread.{turns_in}
use Rattle.turn_board.specs.Turns.{Told as IsTold, IsNewest}
use Rattle.turn_board.specs.Views.{Held, View, taking}
use Rattle.turn_board.specs.Works as Works
use Rattle.turn_board.specs.Works.{giving}
use Rattle.turn_board.specs.declared.board.TurnBoard.{TurnBoard}
use Rattle.store_turns.specs.declared.session.Session.{Session}
use Rattle.store_turns.specs.Fits.{Fits, IsSessionOf, name_in}
use Rattle.store_turns.specs.Grows.{Went}
use Rattle.store_turns.proofs.Growing.{went_on}
use Rattle.store_log.specs.LogChanges.{in_hands, IsBaseOf, CanAppend}
use Rattle.store_log.proofs.Passes.{can-append}
use Rattle.store_leads.specs.declared.appending.Tried.{Tried}
use Rattle.store_leads.specs.declared.ending.End.{End}
use Rattle.store_leads.specs.declared.ending.End.TheVariants as ending
use Rattle.store_leads.specs.declared.ending.Ended.{Ended}
use Rattle.store_leads.specs.Appends.{HasTried}
use Rattle.store_leads.specs.Endings.{mend_told, end_told, ending_told, dones, outcome_by, clock_by, EndsGroup}
use Rattle.store_leads.specs.Leads.{log_held, actor_in, collecting, Leads, AreWaits}
use Rattle.store_leads.proofs.Collects.{leads_of, actor_of_leads}
use Rattle.store_leads.proofs.Doing.{Does, leads_took}
use Rattle.store_leads.proofs.Ends.{ends}
use Rattle.store_leads.proofs.Knowing.{awaited, ended_fits}

-- ---- waits

pub waits_more : (ts us : List Told) → AreWaits ts → AreWaits us → AreWaits (ts ++ us)
waits_more [] us one two = two
waits_more (t ∷ ts) us one two = (one.0, waits_more ts us one.1 two)

pub waits_to_the_end : (mended : Bool) (end : End) → AreWaits (ending_told mended end)
waits_to_the_end mended end = waits_more (mend_told mended) (end_told end) (mends mended) (by_end end)
  where
    mends : (b : Bool) → AreWaits (mend_told b)
    mends true = (inr (inr (inr (inr (inr refl)))), tt)
    mends false = tt

    by_end : (e : End) → AreWaits (end_told e)
    by_end (ending.Published moment epoch) = (inr (inr (inl (moment, refl))), (inr (inr (inr (inl (epoch, refl)))), tt))
    by_end (ending.Failed before after) = (inr (inr (inr (inr (inl (before, after, refl))))), tt)

-- ---- the pass

module _ {H : Type 0} (board : TurnBoard H) (shards index : ℕ) where
  -- events behind others
  pub leads_more : (p q r : Seat (Option H) View) (ts us : List Told) (hs gs : List Held) → Leads board shards index ts hs p q → Leads board shards index us gs q r → Leads board shards index (ts ++ us) gs p r
  leads_more p q r ts us hs gs one two = record {
    holds = two.holds;
    went = went_on (name_in (known p) index) ts us hs gs (known p) (known q) (known r) one.went (subst (λ n. Went n us gs (known q) (known r)) same two.went);
    seat = (two.seat.0 ∙ one.seat.0, two.seat.1 ∙ one.seat.1);
    told = two.told;
  }
    where
      same : name_in (known q) index ≡ name_in (known p) index
      same = λ i. record { pass = (one.went.same i).number; index = index }

  -- a leader that has collected a group
  module _ (p q : Seat (Option H) View) (s : Session) (is_index : s.index ≡ index) (log : LogPart) (free : log.holder ≡ None) (group : List Encoded) (ts : List Told) (led : Leads board shards index ts (log_held shards (in_hands (name_in (known p) index) log)) p q)
      (actor : actor_in (known q) index ≡ collecting (records_at 0 group) (actor_in (known p) index)) (fits : Fits s (known p)) where
    abbrev n : Name
    n = name_in (known p) index

    abbrev rs : List Record
    rs = records_at 0 group

    own_name : name_in (known q) index ≡ n
    own_name = λ i. record { pass = (led.went.same i).number; index = index }

    here : actor_of (known q).base (known q).actors n ≡ collecting rs (actor_in (known p) index)
    here = ap (λ m. actor_of (known q).base (known q).actors m) (sym own_name) ∙ actor

    fits_here : IsSessionOf s (actor_in (known p) index)
    fits_here = subst (λ k. IsSessionOf s (actor_in (known p) k)) is_index fits

    pub can_append : IsBaseOf (known p).base (known p).found.records → CanAppend log group
    can_append found = can-append shards (known q) n log group (subst (λ k. IsTold k (known q)) (sym led.holds.turns) led.told)
        (subst (λ (v : View). IsBaseOf v.base v.found.records) (sym led.went.same) found) (record {
          held = led.holds.held;
          own = inl (ap (λ (v : View). v.number) led.went.same);
          group = (0, ap (λ (a : Actor). a.group) here);
          unwritten = ap (λ (a : Actor). a.written) here ∙ fits_here.leads.1;
        })

    -- and has taken the clock's turn again
    module _ (took : Seat (Option H) View) (k : Clock) (taken : known took ≡ taking shards (OfClock k) (known q)) (told_now : IsTold (turns took) (known took)) (kept : SameSeat q took) where
      many : shards + 2 ≡ turns took
      many = led.holds.turns ∙ sym (ap (λ id. turns_in id.slots) kept.0)

      pub waits_in_clock : Awaited k.rows k.outcomes (rs ++ k.queue)
      waits_in_clock = awaited shards (turns took) (known took) index k (log_held shards (in_hands n log)) rs many told_now
          (ap (λ (v : View). v.held) taken ∙ (λ i. record { turn = shards; part = OfClock k } ∷ led.holds.held i))
          (ap (λ (v : View). (actor_in v index).group) taken ∙ ap (λ (a : Actor). a.group) actor)

      -- and has ended the group
      module _ (log' : LogPart) (tried : Tried) (x : Ended) (k' : Clock) (s' : Session) (has : HasTried (records_at (log.durable + 1) group) log tried log') (done : EndsGroup rs tried k s x k' s') where
        abbrev us : List Told
        us = ending_told x.mended x.end

        abbrev after : Actor
        after = without_group (outcome_by x.end) (collecting rs (actor_in (known p) index))

        does : Does shards (taking shards (OfClock k) (known q)) n us (clock_by x.end rs k) (log_held shards log') after
        does = subst (λ b. Does shards (taking shards (OfClock k) (known q)) n (ending_told b x.end) (clock_by x.end rs k) (log_held shards log') after) (sym done.mended)
            (ends shards n group (taking shards (OfClock k) (known q)) log log' k (collecting rs (actor_in (known p) index)) tried x.end (ap (λ (v : View). v.number) (sym led.went.same)) (λ i. record { turn = shards; part = OfClock k } ∷ led.holds.held i) here free fits_here.leads.1 refl has done.end)

        there : Does shards (taking shards (OfClock k) (known q)) (name_in (known q) index) us (clock_by x.end rs k) (log_held shards log') after
        there = subst (λ m. Does shards (taking shards (OfClock k) (known q)) m us (clock_by x.end rs k) (log_held shards log') after) (sym own_name) does

        same_events : name_in (known took) x.index ≡ name_in (known q) index
        same_events = λ i. record { pass = (taken i).number; index = (done.index ∙ is_index) i }

        pub may_give : Works.Leads (turns took - 2) (known took) (dones (name_in (known took) x.index) us) (OfClock k')
        may_give = subst (λ (z : Name × Clock). Works.Leads (turns took - 2) (known took) (dones z.0 us) (OfClock z.1)) (λ i. (sym same_events i, sym done.clock i))
            (leads_took shards (name_in (known q) index) (known q) (known took) (known q) k (clock_by x.end rs k) us (log_held shards log') after taken there (turns took) many)

        -- and has given the turn back
        module _ (r : Seat (Option H) View) (given : Knowing r (giving (dones (name_in (known took) x.index) us) (known took))) (told_then : IsTold (turns r) (known r)) (newest : IsNewest (OfClock k') (known took)) (same : SameSeat took r) where
          knowing : Knowing r (giving (dones (name_in (known q) index) us) (known took))
          knowing = subst (λ m. Knowing r (giving (dones m us) (known took))) same_events given

          newest_so : IsNewest (OfClock (clock_by x.end rs k)) (known took)
          newest_so = subst (λ z. IsNewest (OfClock z) (known took)) done.clock newest

          more : Leads board shards index us (log_held shards log') q r
          more = leads_of board shards index us q took r k (clock_by x.end rs k) (log_held shards (in_hands n log)) (log_held shards log') after led.holds taken kept there knowing told_then newest_so same

          pub led_to_the_end : Leads board shards index (ts ++ us) (log_held shards log') p r
          led_to_the_end = leads_more p q r ts us (log_held shards (in_hands n log)) (log_held shards log') led more

          pub fits_then : s'.index ≡ s.index → Fits s' (known r)
          fits_then same_index = subst (λ j. IsSessionOf s' (actor_in (known r) j)) (sym (same_index ∙ is_index))
              (subst (λ a. IsSessionOf s' a) (sym (actor_of_leads board shards index us q took r k (clock_by x.end rs k) (log_held shards (in_hands n log)) (log_held shards log') after led.holds taken kept there knowing told_then newest_so same))
              (ended_fits s s' (actor_in (known p) index) (outcome_by x.end) rs fits_here done.session))
