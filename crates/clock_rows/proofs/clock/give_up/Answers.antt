use Rattle.std.proofs.Common.{ℕ, ◌≡◌, ◌∙◌, ◌++◌, List, [], ◌∷◌, true, slice_get, take, refl, sym, ap, subst}
use Rattle.graph_model.specs.Records.{group_most}
use Rattle.graph_model.specs.declared.record.Record.{Record}
use Rattle.graph_model.specs.declared.record.Outcome.TheVariants.{Failed}
use Rattle.group_commit.specs.Members.{records_at}
use Rattle.reader_table.specs.declared.row.Row.{Row}
use Rattle.core_states.specs.declared.clock.Clock.{Clock}
use Rattle.core_states.specs.Numbers.{outcome_of, settled_as}
use Rattle.epoch_clock.specs.ActiveRows.{tid_in}
use Rattle.epoch_clock.specs.ClockCalls.{waiting_record}
use Rattle.epoch_clock.specs.Decided.{is_lost}
use Rattle.epoch_clock.proofs.Outcomes.{outcome_pushed}
use Rattle.clock_rows.proofs.clock.give_up.Goals as goal

pub end-requires-clause-lost : goal.end-requires-clause-lost
end-requires-clause-lost c =
    let old = c.args.part.now in
    let queue : c.enqueue.new.self.clock.queue ≡ waiting_record c.args.m ∷ [] =
    ap (λ (k : Clock). k.queue) c.enqueue.ensures.queued ∙ ap (λ (q : List Record). q ++ waiting_record c.args.m ∷ []) c.requires.idle in
    let group : records_at 0 c.collect-group.result ≡ waiting_record c.args.m ∷ [] =
    c.collect-group.ensures.group ∙ ap (λ (q : List Record). take group_most q) queue in
    let before : c.collect-group.new.self.clock.outcomes ≡ old.clock.outcomes =
    ap (λ (k : Clock). k.outcomes) c.collect-group.ensures.collected ∙ ap (λ (k : Clock). k.outcomes) c.enqueue.ensures.queued in
    let after : c.fail.new.self.clock.outcomes ≡ old.clock.outcomes ++ settled_as (Failed 3 4) (waiting_record c.args.m ∷ []) =
    ap (λ (k : Clock). k.outcomes) c.fail.ensures.failed ∙ (λ i. before i ++ settled_as (Failed 3 4) (group i)) in
    let tid : tid_in (slice_get c.fail.new.self.readers c.args.row) ≡ c.args.m.draft.tid =
    ap (λ (rows : List Row). tid_in (slice_get rows c.args.row)) (c.fail.ensures.keeps ∙ c.collect-group.ensures.keeps ∙ c.enqueue.ensures.keeps) ∙ ap tid_in c.requires.row in
    (λ i. is_lost (outcome_of (tid i) (after i))) ∙ ap is_lost (outcome_pushed c.args.m.draft.tid (Failed 3 4) old.clock.outcomes c.requires.undecided)
