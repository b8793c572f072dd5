use Rattle.std.proofs.Common.{ℕ, ◌≡◌, ◌∙◌, ◌-◌, ◌+◌, ◌++◌, List, length, refl, sym, ap, subst, arith}
use Rattle.graph_model.specs.declared.record.Outcome.TheVariants.{Failed}
use Rattle.group_commit.specs.Members.{records_at}
use Rattle.commit_queue.specs.KeptOutcomes.{kept_for}
use Rattle.core_states.specs.declared.clock.KeptOutcome.{KeptOutcome}
use Rattle.core_states.specs.Numbers.{settled_as}
use Rattle.epoch_clock.specs.Decided.{outcomes_of, undone_of, Awaited}
use Rattle.epoch_clock.specs.CommitRooms.{HasRoomFor}
use Rattle.epoch_clock.specs.ClockCalls.{failed_clock}
use Rattle.epoch_clock.specs.EpochStates.{EpochState}
use Rattle.epoch_clock.specs.EpochKept.{rows_in, outcomes_in, clock_in}
use Rattle.epoch_clock.proofs.Outcomes.{all_new, outcomes_append, outcomes_for}
use Rattle.epoch_clock.proofs.Keeping.{Facts, facts_of, kept_of, facts_same, group_few, failed_facts, failed_pending, clock_is, has_less, length_records}
use Rattle.epoch_clock.proofs.Events.{fails_is}
use Rattle.epoch_clock.proofs.epoch_part.EpochPart.fail_from.Goals as goal

pub overflow_sub-self : goal.overflow_sub-self
overflow_sub-self c =
    let a = c.self.inside in
    let waits = subst (λ (s : EpochState). Awaited s.clock.rows s.clock.outcomes (records_at 0 c.args.g.now ++ s.clock.queue)) (sym c.self.view_is) c.requires.collected in
    let few = group_few a.next_tid a.last a.visible a.undecided (rows_in a) (outcomes_in a) (records_at 0 a.commits.queue.members) a.commits.undone.items (facts_of a c.self.invariant) (records_at 0 c.args.g.now) waits in
    let long = length_records 0 c.args.g.now in
    omega arith

pub fail-requires-clause-fresh : goal.fail-requires-clause-fresh
fail-requires-clause-fresh c =
    let a = c.self.inside in
    let waits = subst (λ (s : EpochState). Awaited s.clock.rows s.clock.outcomes (records_at 0 c.args.g.now ++ s.clock.queue)) (sym c.self.view_is) c.requires.collected in
    all_new (rows_in a) a.commits.outcomes.kept c.args.g.now (records_at 0 a.commits.queue.members) waits

pub fail-requires-clause-room : goal.fail-requires-clause-room
fail-requires-clause-room c =
    let a = c.self.inside in
    let waits = subst (λ (s : EpochState). Awaited s.clock.rows s.clock.outcomes (records_at 0 c.args.g.now ++ s.clock.queue)) (sym c.self.view_is) c.requires.collected in
    let few = group_few a.next_tid a.last a.visible a.undecided (rows_in a) (outcomes_in a) (records_at 0 a.commits.queue.members) a.commits.undone.items (facts_of a c.self.invariant) (records_at 0 c.args.g.now) waits in
    let long = length_records 0 c.args.g.now in
    has_less (length c.args.g.now) a.undecided a.commits (omega arith) c.self.invariant.room

pub invariant_of-self : goal.invariant_of-self
invariant_of-self c =
    let a = c.self.inside in
    let h = c.self.invariant in
    let waits = subst (λ (s : EpochState). Awaited s.clock.rows s.clock.outcomes (records_at 0 c.args.g.now ++ s.clock.queue)) (sym c.self.view_is) c.requires.collected in
    let few = group_few a.next_tid a.last a.visible a.undecided (rows_in a) (outcomes_in a) (records_at 0 a.commits.queue.members) a.commits.undone.items (facts_of a h) (records_at 0 c.args.g.now) waits in
    let long = length_records 0 c.args.g.now in
    let many : a.undecided - c.len.result ≡ a.undecided - length (records_at 0 c.args.g.now) = omega arith in
    let outcomes = ap outcomes_of c.fail.ensures.outcomes ∙ outcomes_append a.commits.outcomes.kept (kept_for (Failed c.args.before c.args.after) c.args.g.now)
    ∙ ap (λ (l : List KeptOutcome). outcomes_in a ++ l) (outcomes_for (Failed c.args.before c.args.after) c.args.g.now) in
    let room = c.fail.ensures.room (a.undecided - c.len.result) (has_less (a.undecided - c.len.result + length c.args.g.now) a.undecided a.commits (omega arith) h.room) in
    kept_of (record { next_tid = a.next_tid; next_vertex = a.next_vertex; last = a.last; visible = a.visible; undecided = a.undecided - c.len.result; readers = a.readers; commits = c.fail.new.self })
    h.next_tid h.next_vertex room
    (facts_same a.next_tid a.last a.visible (a.undecided - c.len.result) (rows_in a) (rows_in a) _ (outcomes_of c.fail.new.self.outcomes.kept)
    (records_at 0 a.commits.queue.members) (records_at 0 c.fail.new.self.queue.members) a.commits.undone.items c.fail.new.self.undone.items
    refl outcomes (ap (records_at 0) c.fail.ensures.queue) c.fail.ensures.undone
    (subst (λ (n : ℕ). Facts a.next_tid a.last a.visible n (rows_in a) (outcomes_in a ++ settled_as (Failed c.args.before c.args.after) (records_at 0 c.args.g.now)) (records_at 0 a.commits.queue.members) a.commits.undone.items) (sym many)
    (failed_facts a.next_tid a.last a.visible a.undecided (rows_in a) (outcomes_in a) (records_at 0 a.commits.queue.members) a.commits.undone.items (facts_of a h) c.args.before c.args.after (records_at 0 c.args.g.now) waits)))

pub returns-clause-failed : goal.returns-clause-failed
returns-clause-failed c =
    let a = c.self.inside in
    let h = c.self.invariant in
    let outcomes = ap outcomes_of c.fail.ensures.outcomes ∙ outcomes_append a.commits.outcomes.kept (kept_for (Failed c.args.before c.args.after) c.args.g.now)
    ∙ ap (λ (l : List KeptOutcome). outcomes_in a ++ l) (outcomes_for (Failed c.args.before c.args.after) c.args.g.now) in
    clock_is _ (failed_clock c.args.before c.args.after (records_at 0 c.args.g.now) (clock_in a)) refl refl refl refl refl (ap (records_at 0) c.fail.ensures.queue)
    (ap (λ (k : List KeptOutcome). undone_of k (rows_in a)) outcomes
    ∙ failed_pending a.next_tid a.last a.visible a.undecided (rows_in a) (outcomes_in a) (records_at 0 a.commits.queue.members) a.commits.undone.items (facts_of a h) c.args.before c.args.after (records_at 0 c.args.g.now))
    outcomes c.fail.ensures.records c.fail.ensures.moments
    ∙ ap (λ (s : EpochState). failed_clock c.args.before c.args.after (records_at 0 c.args.g.now) s.clock) c.self.view_is

pub returns-clause-event : goal.returns-clause-event
returns-clause-event c = fails_is c.args.self.now.clock _ c.args.before c.args.after (records_at 0 c.args.g.now) (returns-clause-failed c)
