use Rattle.std.proofs.Common.{ℕ, ◌≡◌, ◌∙◌, ◌<◌, ◌++◌, List, [], ◌∷◌, false, true, None, length, refl, sym, ap, subst, arith}
use Rattle.std.proofs.lemmas.List.{map-append}
use Rattle.graph_model.specs.declared.record.Record.{Record}
use Rattle.group_commit.specs.Encoded.{Encoded}
use Rattle.group_commit.specs.Members.{records_at}
use Rattle.commit_queue.specs.Waiting.{Waiting}
use Rattle.core_states.specs.Numbers.{outcome_of, has_record}
use Rattle.epoch_clock.specs.ActiveRows.{is_running}
use Rattle.epoch_clock.specs.ClockCalls.{waiting_record, queued_clock}
use Rattle.epoch_clock.specs.EpochStates.{EpochState}
use Rattle.epoch_clock.specs.EpochKept.{rows_in, outcomes_in}
use Rattle.core_states.specs.ClockEvents.{learn}
use Rattle.epoch_clock.proofs.Events.{enqueues_is}
use Rattle.epoch_clock.proofs.Keeping.{facts_of, queued_facts, queued_room, same_queue, queue_clock, length_records}
use Rattle.epoch_clock.proofs.epoch_part.EpochPart.enqueue.Goals as goal

pub push-requires : goal.push-requires
push-requires c =
    let a = c.self.inside in
    let runs = subst (λ (s : EpochState). is_running c.args.m.draft.tid s.clock.rows ≡ true) (sym c.self.view_is) c.requires.runs in
    let none = subst (λ (s : EpochState). outcome_of c.args.m.draft.tid s.clock.outcomes ≡ None) (sym c.self.view_is) c.requires.undecided in
    let other = subst (λ (s : EpochState). has_record c.args.m.draft.tid s.clock.queue ≡ false) (sym c.self.view_is) c.requires.not_queued in
    let few = queued_room a.next_tid a.last a.visible a.undecided (rows_in a) (outcomes_in a) (records_at 0 a.commits.queue.members) a.commits.undone.items (facts_of a c.self.invariant) (waiting_record c.args.m) runs none other in
    let long = length_records 0 a.commits.queue.members in
    let room = c.self.invariant.room.queue in
    omega arith

pub invariant_of-self : goal.invariant_of-self
invariant_of-self c =
    let a = c.self.inside in
    let runs = subst (λ (s : EpochState). is_running c.args.m.draft.tid s.clock.rows ≡ true) (sym c.self.view_is) c.requires.runs in
    let none = subst (λ (s : EpochState). outcome_of c.args.m.draft.tid s.clock.outcomes ≡ None) (sym c.self.view_is) c.requires.undecided in
    let other = subst (λ (s : EpochState). has_record c.args.m.draft.tid s.clock.queue ≡ false) (sym c.self.view_is) c.requires.not_queued in
    let more : records_at 0 c.push.new.self.members ≡ records_at 0 a.commits.queue.members ++ waiting_record c.args.m ∷ [] =
    ap (λ (w : Waiting). records_at 0 w.members) c.push.ensures ∙ map-append waiting_record a.commits.queue.members (c.args.m ∷ []) in
    same_queue a c.push.new.self (records_at 0 a.commits.queue.members ++ waiting_record c.args.m ∷ []) more (ap (λ (w : Waiting). w.room) c.push.ensures) c.self.invariant
    (queued_facts a.next_tid a.last a.visible a.undecided _ _ _ _ (facts_of a c.self.invariant) (waiting_record c.args.m) runs none other)

pub returns-clause-queued : goal.returns-clause-queued
returns-clause-queued c =
    let a = c.self.inside in
    let more : records_at 0 c.push.new.self.members ≡ records_at 0 a.commits.queue.members ++ waiting_record c.args.m ∷ [] =
    ap (λ (w : Waiting). records_at 0 w.members) c.push.ensures ∙ map-append waiting_record a.commits.queue.members (c.args.m ∷ []) in
    queue_clock a c.push.new.self (records_at 0 a.commits.queue.members ++ waiting_record c.args.m ∷ []) more ∙ ap (λ (s : EpochState). queued_clock (waiting_record c.args.m) s.clock) c.self.view_is

pub returns-clause-learnt : goal.returns-clause-learnt
returns-clause-learnt c = c.horizon.ensures.learnt ∙ ap (λ (s : EpochState). learn s.clock) c.self.view_is

pub returns-clause-event : goal.returns-clause-event
returns-clause-event c = enqueues_is c.args.self.now.clock _ (waiting_record c.args.m) c.horizon.result (returns-clause-learnt c) (returns-clause-queued c)
