use Rattle.std.proofs.Common.{◌≡◌, ◌∙◌, ◌+◌, ◌++◌, List, [], ◌∷◌, take, ap}
use Rattle.graph_model.specs.Records.{group_most}
use Rattle.graph_model.specs.declared.record.Record.{Record}
use Rattle.group_commit.specs.Members.{records_at}
use Rattle.core_states.specs.declared.clock.Clock.{Clock}
use Rattle.core_states.specs.Numbers.{pending_of}
use Rattle.epoch_clock.specs.ActiveRows.{is_running}
use Rattle.epoch_clock.specs.ClockCalls.{waiting_record}
use Rattle.part_trial.proofs.Pending.{runs_last}
use Rattle.part_trial.proofs.parts.publish.Goals as goal

pub returns-clause-undone : goal.returns-clause-undone
returns-clause-undone c =
    let m = c.args.member in
    let k = c.collect-group.new.self.clock in
    let queue : c.enqueue-learnt.new.self.clock.queue ≡ waiting_record m ∷ [] =
    ap (λ (k : Clock). k.queue) c.enqueue-learnt.ensures.queued ∙ ap (λ (q : List Record). q ++ waiting_record m ∷ []) c.requires.idle in
    let group : records_at 0 c.collect-group.result ≡ waiting_record m ∷ [] =
    c.collect-group.ensures.group ∙ ap (λ (q : List Record). take group_most q) queue in
    let pending : c.publish.new.self.clock.pending ≡ k.pending ++ pending_of (k.last + 1) (waiting_record m ∷ []) =
    ap (λ (k : Clock). k.pending) c.publish.ensures.published ∙ ap (λ (g : List Record). k.pending ++ pending_of (k.last + 1) g) group in
    ap (is_running m.draft.tid) pending ∙ runs_last m.draft.tid (k.last + 1) k.pending
