use Rattle.std.proofs.Common.{◌≡◌, refl, sym, ap, ◌∙◌, length}
use Rattle.graph_model.specs.declared.record.Record.{Record}
use Rattle.core_states.specs.Numbers.{has_record, outcome_of}
use Rattle.epoch_clock.specs.ActiveRows.{is_running}
use Rattle.epoch_clock.specs.ClockCalls.{queued_clock}
use Rattle.store_turns.specs.Moves.{Works}
use Rattle.core_states.specs.Transactions.{is_loser}
use Rattle.std.specs.Prelude.{◌==◌}
use Rattle.store_turns.specs.declared.session.Session.{Session}
use Rattle.store_turns.specs.declared.session.Work.{Work}
use Rattle.store_calls.proofs.Works.{one_work, works_too}
use Rattle.store_calls.proofs.Records.{runs_in, undecided_in, waits_not}
use Rattle.store_calls.proofs.CommitMoves.{does_enqueue}
use Rattle.store_calls.proofs.commit_calls.EnqueueClockCall.call.Goals as goal
use Rattle.store_calls.proofs.commit_calls.EnqueueClockCall.call.Goals.{In_ok-take}

-- what is taken works
works : (c : In_ok-take) → Works c.args.session.now c.in_ok-take.field-0
works c = works_too c.args.session.now c.in_ok-working.field-0.now c.in_ok-take.field-0 c.in_ok-working.ensures.some (sym c.in_ok-take.ensures.value)

pub enqueue-learnt-requires-clause-runs : goal.enqueue-learnt-requires-clause-runs
enqueue-learnt-requires-clause-runs c =
    ap (λ (r : Record). is_running r.tid c.args.home.now.part.clock.rows) c.queued-member.ensures.member
    ∙ runs_in c.args.home.now.part.clock c.args.session.now c.in_ok-take.field-0 c.requires.known (sym c.in_ok-take.ensures.value)

pub enqueue-learnt-requires-clause-undecided : goal.enqueue-learnt-requires-clause-undecided
enqueue-learnt-requires-clause-undecided c =
    let at = works (goal.at.enqueue-learnt-requires-clause-undecided c).In_ok-take in
    ap (λ (r : Record). outcome_of r.tid c.args.home.now.part.clock.outcomes) c.queued-member.ensures.member
    ∙ undecided_in c.args.home.now.part.clock c.args.session.now c.in_ok-take.field-0 c.requires.known at.is at.stage

pub enqueue-learnt-requires-clause-not_queued : goal.enqueue-learnt-requires-clause-not_queued
enqueue-learnt-requires-clause-not_queued c =
    let at = works (goal.at.enqueue-learnt-requires-clause-not_queued c).In_ok-take in
    ap (λ (r : Record). has_record r.tid c.args.home.now.part.clock.queue) c.queued-member.ensures.member
    ∙ waits_not c.args.home.now.part.clock c.args.session.now c.in_ok-take.field-0 c.requires.known at.is (ap is_loser at.stage)

pub returns-clause-does : goal.returns-clause-does
returns-clause-does c =
    let s : Session = c.args.session.now in
    let k = c.args.home.now.part.clock in
    let t = c.in_ok-take.field-0 in
    let same : c.in_ok-working.field-0.now ≡ t = one_work s c.in_ok-working.field-0.now t c.in_ok-working.ensures.some.is (sym c.in_ok-take.ensures.value) in
    let told = c.queued-member.ensures in
    does_enqueue k c.enqueue-learnt.new.self.clock s t c.queued-member.result.1 c.enqueue-learnt.result (works (goal.at.returns-clause-does c).In_ok-take)
    (sym (ap (λ (w : Work). length w.changes == 0) same) ∙ sym c.if-is_empty.ensures)
    told.waits told.keeps.0 told.keeps.1 c.enqueue-learnt.ensures.learnt
    (c.enqueue-learnt.ensures.queued ∙ ap (λ (r : Record). queued_clock (record r { epoch = 0 }) k) told.member)

pub returns-clause-leaves : goal.returns-clause-leaves
returns-clause-leaves c = (c.in_ok-take.field-0, c.queued-member.result.1, works (goal.at.returns-clause-leaves c).In_ok-take, refl, c.queued-member.ensures.waits, tt)
