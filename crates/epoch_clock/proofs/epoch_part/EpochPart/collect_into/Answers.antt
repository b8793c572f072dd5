use Rattle.std.proofs.Common.{◌≡◌, ◌∙◌, length, take, drop, sym, ap}
use Rattle.std.proofs.lemmas.List.{take-map, drop-map}
use Rattle.graph_model.specs.Records.{group_most}
use Rattle.group_commit.specs.Members.{records_at}
use Rattle.commit_queue.specs.Waiting.{Waiting}
use Rattle.epoch_clock.specs.ClockCalls.{waiting_record, collected_clock}
use Rattle.epoch_clock.specs.EpochStates.{EpochState}
use Rattle.epoch_clock.proofs.Keeping.{length_records, facts_of, collected_facts, same_queue, queue_clock}
use Rattle.epoch_clock.proofs.Events.{collects_is}
use Rattle.epoch_clock.proofs.epoch_part.EpochPart.collect_into.Goals as goal

pub invariant_of-self : goal.invariant_of-self
invariant_of-self c =
    let a = c.self.inside in
    let left : records_at 0 c.collect_into.new.self.members ≡ drop group_most (records_at 0 a.commits.queue.members) =
    ap (λ (w : Waiting). records_at 0 w.members) c.collect_into.ensures.rest ∙ sym (drop-map waiting_record group_most a.commits.queue.members) in
    same_queue a c.collect_into.new.self (drop group_most (records_at 0 a.commits.queue.members)) left (ap (λ (w : Waiting). w.room) c.collect_into.ensures.rest) c.self.invariant
    (collected_facts a.next_tid a.last a.visible a.undecided _ _ _ _ (facts_of a c.self.invariant) group_most)

pub returns-clause-group : goal.returns-clause-group
returns-clause-group c =
    ap (records_at 0) c.collect_into.ensures.group ∙ sym (take-map waiting_record group_most c.self.inside.commits.queue.members) ∙ ap (λ (s : EpochState). take group_most s.clock.queue) c.self.view_is

pub returns-clause-collected : goal.returns-clause-collected
returns-clause-collected c =
    let a = c.self.inside in
    let left : records_at 0 c.collect_into.new.self.members ≡ drop group_most (records_at 0 a.commits.queue.members) =
    ap (λ (w : Waiting). records_at 0 w.members) c.collect_into.ensures.rest ∙ sym (drop-map waiting_record group_most a.commits.queue.members) in
    queue_clock a c.collect_into.new.self (drop group_most (records_at 0 a.commits.queue.members)) left ∙ ap (λ (s : EpochState). collected_clock s.clock) c.self.view_is

pub returns-clause-event : goal.returns-clause-event
returns-clause-event c =
    collects_is c.args.self.now.clock _ (records_at 0 c.collect_into.new.group) (length c.collect_into.new.group) c.requires.some (returns-clause-group c) (sym (length_records 0 c.collect_into.new.group)) (returns-clause-collected c)
