use Rattle.std.proofs.Common.{ℕ, ◌≡◌, ◌∙◌, false, true, None, slice_get, is_some, refl, sym, ap, subst}
use Rattle.reader_table.specs.Rows.{is_active}
use Rattle.core_states.specs.Numbers.{outcome_of, has_record}
use Rattle.epoch_clock.specs.ActiveRows.{tid_in}
use Rattle.epoch_clock.specs.Decided.{is_lost}
use Rattle.epoch_clock.specs.ClockCalls.{ended_clock}
use Rattle.epoch_clock.specs.EpochStates.{EpochState}
use Rattle.epoch_clock.specs.EpochKept.{outcomes_in, epoch_state}
use Rattle.epoch_clock.specs.declared.epoch_part.EpochPart.TheInside.{Inside}
use Rattle.epoch_clock.proofs.Keeping.{end_none, end_some, end_clock, none_of}
use Rattle.epoch_clock.proofs.Events.{ends_is}
use Rattle.epoch_clock.proofs.epoch_part.EpochPart.end.Goals as goal

-- what the outcome is that was asked for
asked : (a : Inside) (s : EpochState) (i : ℕ) → epoch_state a ≡ s → {r : _} (t : ℕ) (o : _) → r ≡ slice_get a.readers i → t ≡ tid_in r → o ≡ outcome_of t s.clock.outcomes → o ≡ outcome_of (tid_in (slice_get a.readers i)) (outcomes_in a)
asked a s i view t o row tid outcome = outcome ∙ (λ j. outcome_of ((tid ∙ ap tid_in row) j) (sym view j).clock.outcomes)

pub overflow_sub-self : goal.overflow_sub-self
overflow_sub-self c =
    let a = c.self.inside in
    let active = subst (λ (s : EpochState). is_active (slice_get s.readers c.args.row) ≡ true) (sym c.self.view_is) c.requires.active in
    let other = subst (λ (s : EpochState). has_record (tid_in (slice_get s.readers c.args.row)) s.clock.queue ≡ false) (sym c.self.view_is) c.requires.not_queued in
    let o = asked a c.args.self.now c.args.row c.self.view_is c.tid_of.result c.outcome.result c.row.ensures.row c.tid_of.ensures c.outcome.ensures.kept in
    (end_none a c.args.row c.leave.new.self c.self.invariant active c.leave.ensures (sym o ∙ none_of c.outcome.result (sym c.is_some-decided.ensures ∙ c.if-not-decided.true)) other).0

pub invariant_of-self : goal.invariant_of-self
invariant_of-self c =
    let a = c.self.inside in
    let active = subst (λ (s : EpochState). is_active (slice_get s.readers c.args.row) ≡ true) (sym c.self.view_is) c.requires.active in
    let other = subst (λ (s : EpochState). has_record (tid_in (slice_get s.readers c.args.row)) s.clock.queue ≡ false) (sym c.self.view_is) c.requires.not_queued in
    let o = asked a c.args.self.now c.args.row c.self.view_is c.tid_of.result c.outcome.result c.row.ensures.row c.tid_of.ensures c.outcome.ensures.kept in
    (end_none a c.args.row c.leave.new.self c.self.invariant active c.leave.ensures (sym o ∙ none_of c.outcome.result (sym c.is_some-decided.ensures ∙ c.if-not-decided.true)) other).1

pub invariant_of-self-else-not-decided : goal.invariant_of-self-else-not-decided
invariant_of-self-else-not-decided c =
    let a = c.self.inside in
    let active = subst (λ (s : EpochState). is_active (slice_get s.readers c.args.row) ≡ true) (sym c.self.view_is) c.requires.active in
    let lost = subst (λ (s : EpochState). is_lost (outcome_of (tid_in (slice_get s.readers c.args.row)) s.clock.outcomes) ≡ true) (sym c.self.view_is) c.requires.lost in
    let o = asked a c.args.self.now c.args.row c.self.view_is c.tid_of.result c.outcome.result c.row.ensures.row c.tid_of.ensures c.outcome.ensures.kept in
    end_some a c.args.row c.leave.new.self c.self.invariant active c.leave.ensures (ap is_some (sym o) ∙ sym c.is_some-decided.ensures ∙ c.if-not-decided.false) lost

pub returns-then-not-decided-clause-ended : goal.returns-then-not-decided-clause-ended
returns-then-not-decided-clause-ended c =
    let a = c.self.inside in
    let active = subst (λ (s : EpochState). is_active (slice_get s.readers c.args.row) ≡ true) (sym c.self.view_is) c.requires.active in
    let lost = subst (λ (s : EpochState). is_lost (outcome_of (tid_in (slice_get s.readers c.args.row)) s.clock.outcomes) ≡ true) (sym c.self.view_is) c.requires.lost in
    end_clock a c.args.row c.leave.new.self c.self.invariant active c.leave.ensures lost
    ∙ ap (λ (s : EpochState). ended_clock (tid_in (slice_get s.readers c.args.row)) s.clock) c.self.view_is

pub returns-else-not-decided-clause-ended : goal.returns-else-not-decided-clause-ended
returns-else-not-decided-clause-ended c =
    let a = c.self.inside in
    let active = subst (λ (s : EpochState). is_active (slice_get s.readers c.args.row) ≡ true) (sym c.self.view_is) c.requires.active in
    let lost = subst (λ (s : EpochState). is_lost (outcome_of (tid_in (slice_get s.readers c.args.row)) s.clock.outcomes) ≡ true) (sym c.self.view_is) c.requires.lost in
    end_clock a c.args.row c.leave.new.self c.self.invariant active c.leave.ensures lost
    ∙ ap (λ (s : EpochState). ended_clock (tid_in (slice_get s.readers c.args.row)) s.clock) c.self.view_is

pub returns-then-not-decided-clause-event : goal.returns-then-not-decided-clause-event
returns-then-not-decided-clause-event c = ends_is c.args.self.now.clock _ (tid_in (slice_get c.args.self.now.readers c.args.row)) (returns-then-not-decided-clause-ended c)

pub returns-else-not-decided-clause-event : goal.returns-else-not-decided-clause-event
returns-else-not-decided-clause-event c = ends_is c.args.self.now.clock _ (tid_in (slice_get c.args.self.now.readers c.args.row)) (returns-else-not-decided-clause-ended c)
