use Rattle.std.proofs.Common.{ℕ, ◌≡◌, ◌∙◌, ◌-◌, ◌+◌, ◌<◌, ◌++◌, List, [], ◌∷◌, length, refl, sym, ap, subst, arith}
use Rattle.graph_model.specs.declared.record.Outcome.TheVariants.{Committed}
use Rattle.graph_model.specs.declared.record.Record.{Record}
use Rattle.group_commit.specs.Members.{records_at}
use Rattle.commit_queue.specs.KeptOutcomes.{kept_for}
use Rattle.core_states.specs.declared.clock.KeptOutcome.{KeptOutcome}
use Rattle.core_states.specs.Numbers.{settled_as}
use Rattle.epoch_clock.specs.Decided.{outcomes_of, undone_of, Awaited}
use Rattle.epoch_clock.specs.CommitRooms.{HasRoomFor}
use Rattle.epoch_clock.specs.ClockCalls.{published_clock}
use Rattle.epoch_clock.specs.EpochStates.{EpochState}
use Rattle.epoch_clock.specs.EpochKept.{rows_in, outcomes_in, clock_in}
use Rattle.epoch_clock.proofs.Outcomes.{all_new, outcomes_append, outcomes_for, records_numbered}
use Rattle.epoch_clock.proofs.Keeping.{Facts, facts_of, kept_of, facts_same, group_few, published_facts, published_pending, clock_is, has_less, length_records}
use Rattle.epoch_clock.proofs.Events.{publishes_is}
use Rattle.epoch_clock.proofs.epoch_part.EpochPart.publish_from.Goals as goal

pub overflow_sub-self : goal.overflow_sub-self
overflow_sub-self c =
    let a = c.self.inside in
    let waits = subst (λ (s : EpochState). Awaited s.clock.rows s.clock.outcomes (records_at 0 c.args.g.now ++ s.clock.queue)) (sym c.self.view_is) c.requires.collected in
    let few = group_few a.next_tid a.last a.visible a.undecided (rows_in a) (outcomes_in a) (records_at 0 a.commits.queue.members) a.commits.undone.items (facts_of a c.self.invariant) (records_at 0 c.args.g.now) waits in
    let long = length_records 0 c.args.g.now in
    omega arith

pub publish-requires-clause-fresh : goal.publish-requires-clause-fresh
publish-requires-clause-fresh c =
    let a = c.self.inside in
    let waits = subst (λ (s : EpochState). Awaited s.clock.rows s.clock.outcomes (records_at 0 c.args.g.now ++ s.clock.queue)) (sym c.self.view_is) c.requires.collected in
    all_new (rows_in a) a.commits.outcomes.kept c.args.g.now (records_at 0 a.commits.queue.members) waits

pub publish-requires-clause-room : goal.publish-requires-clause-room
publish-requires-clause-room c =
    let a = c.self.inside in
    let waits = subst (λ (s : EpochState). Awaited s.clock.rows s.clock.outcomes (records_at 0 c.args.g.now ++ s.clock.queue)) (sym c.self.view_is) c.requires.collected in
    let few = group_few a.next_tid a.last a.visible a.undecided (rows_in a) (outcomes_in a) (records_at 0 a.commits.queue.members) a.commits.undone.items (facts_of a c.self.invariant) (records_at 0 c.args.g.now) waits in
    let long = length_records 0 c.args.g.now in
    has_less (length c.args.g.now) a.undecided a.commits (omega arith) c.self.invariant.room

pub invariant_of-self : goal.invariant_of-self
invariant_of-self c =
    let a = c.self.inside in
    let h = c.self.invariant in
    let waits = subst (λ (s : EpochState). Awaited s.clock.rows s.clock.outcomes (records_at 0 c.args.g.now ++ s.clock.queue)) (sym c.self.view_is) c.requires.collected in
    let few = group_few a.next_tid a.last a.visible a.undecided (rows_in a) (outcomes_in a) (records_at 0 a.commits.queue.members) a.commits.undone.items (facts_of a h) (records_at 0 c.args.g.now) waits in
    let long = length_records 0 c.args.g.now in
    let least = c.requires.some in
    let some : 0 < length (records_at 0 c.args.g.now) = omega arith in
    let many : a.undecided - c.len.result ≡ a.undecided - length (records_at 0 c.args.g.now) = omega arith in
    let outcomes = ap outcomes_of c.publish.ensures.outcomes ∙ outcomes_append a.commits.outcomes.kept (kept_for (Committed (a.last + 1)) c.args.g.now)
    ∙ ap (λ (l : List KeptOutcome). outcomes_in a ++ l) (outcomes_for (Committed (a.last + 1)) c.args.g.now) in
    let room = c.publish.ensures.room (a.undecided - c.len.result) (has_less (a.undecided - c.len.result + length c.args.g.now) a.undecided a.commits (omega arith) h.room) in
    kept_of (record { next_tid = a.next_tid; next_vertex = a.next_vertex; last = a.last + 1; visible = a.visible; undecided = a.undecided - c.len.result; readers = a.readers; commits = c.publish.new.self })
    h.next_tid h.next_vertex room
    (facts_same a.next_tid (a.last + 1) a.visible (a.undecided - c.len.result) (rows_in a) (rows_in a) _ (outcomes_of c.publish.new.self.outcomes.kept)
    (records_at 0 a.commits.queue.members) (records_at 0 c.publish.new.self.queue.members) (a.commits.undone.items ++ length (records_at 0 c.args.g.now) ∷ []) c.publish.new.self.undone.items
    refl outcomes (ap (records_at 0) c.publish.ensures.queue) (c.publish.ensures.undone ∙ ap (λ (n : ℕ). a.commits.undone.items ++ n ∷ []) (sym long))
    (subst (λ (n : ℕ). Facts a.next_tid (a.last + 1) a.visible n (rows_in a) (outcomes_in a ++ settled_as (Committed (a.last + 1)) (records_at 0 c.args.g.now)) (records_at 0 a.commits.queue.members) (a.commits.undone.items ++ length (records_at 0 c.args.g.now) ∷ [])) (sym many)
    (published_facts a.next_tid a.last a.visible a.undecided (rows_in a) (outcomes_in a) (records_at 0 a.commits.queue.members) a.commits.undone.items (facts_of a h) (records_at 0 c.args.g.now) some waits)))

pub returns-clause-published : goal.returns-clause-published
returns-clause-published c =
    let a = c.self.inside in
    let h = c.self.invariant in
    let waits = subst (λ (s : EpochState). Awaited s.clock.rows s.clock.outcomes (records_at 0 c.args.g.now ++ s.clock.queue)) (sym c.self.view_is) c.requires.collected in
    let outcomes = ap outcomes_of c.publish.ensures.outcomes ∙ outcomes_append a.commits.outcomes.kept (kept_for (Committed (a.last + 1)) c.args.g.now)
    ∙ ap (λ (l : List KeptOutcome). outcomes_in a ++ l) (outcomes_for (Committed (a.last + 1)) c.args.g.now) in
    clock_is _ (published_clock c.args.moment (records_at 0 c.args.g.now) (clock_in a)) refl refl refl refl refl (ap (records_at 0) c.publish.ensures.queue)
    (ap (λ (k : List KeptOutcome). undone_of k (rows_in a)) outcomes
    ∙ published_pending a.next_tid a.last a.visible a.undecided (rows_in a) (outcomes_in a) (records_at 0 a.commits.queue.members) a.commits.undone.items (facts_of a h) (records_at 0 c.args.g.now) waits)
    outcomes
    (c.publish.ensures.records ∙ ap (λ (l : List Record). a.commits.records.items ++ l) (records_numbered (a.last + 1) c.args.g.now))
    c.publish.ensures.moments
    ∙ ap (λ (s : EpochState). published_clock c.args.moment (records_at 0 c.args.g.now) s.clock) c.self.view_is

pub returns-clause-event : goal.returns-clause-event
returns-clause-event c =
    publishes_is c.args.self.now.clock _ c.args.moment (records_at 0 c.args.g.now) (c.self.inside.last + 1) (ap (λ (s : EpochState). s.clock.last + 1) c.self.view_is) (returns-clause-published c)
