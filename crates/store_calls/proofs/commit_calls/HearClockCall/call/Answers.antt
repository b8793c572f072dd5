use Rattle.std.proofs.Common.{◌≡◌, sym, ap, refl, ◌∙◌, Some}
use Rattle.core_states.specs.Numbers.{outcome_of}
use Rattle.store_turns.specs.declared.session.Session.{Session}
use Rattle.store_turns.specs.declared.session.Work.{Work}
use Rattle.store_turns.specs.Moves.{Waits}
use Rattle.store_calls.proofs.Answering.{stage_queued}
use Rattle.store_calls.proofs.Works.{one_work, waits_too, waits_still, same_heard}
use Rattle.store_calls.proofs.CommitMoves.{does_hear, does_hear_none}
use Rattle.store_calls.proofs.commit_calls.HearClockCall.call.Goals as goal
use Rattle.store_calls.proofs.commit_calls.HearClockCall.call.Goals.{After-outcome, In_ok-as_mut-in-Some}

-- the record waits
waits : (c : After-outcome) → Waits c.args.session.now c.in_ok-work.work.now
waits c = record { is = sym c.in_ok-work.ensures.value; stage = stage_queued c.in_ok-work.work.now.stage (sym c.if-not-is_queued.ensures) }

-- and so it does where the outcome is noted
waits_there : (c : In_ok-as_mut-in-Some) → Waits c.args.session.now c.in_ok-as_mut-in-Some.field-0.now
waits_there c = waits_too c.args.session.now c.in_ok-work.work.now c.in_ok-as_mut-in-Some.field-0.now (waits (goal.at.In_ok-as_mut-in-Some c).After-outcome) (sym c.in_ok-as_mut-in-Some.ensures.value)

pub returns-in_ok-as_mut-in-Some-clause-does : goal.returns-in_ok-as_mut-in-Some-clause-does
returns-in_ok-as_mut-in-Some-clause-does c =
    let s : Session = c.args.session.now in
    let k = c.args.home.now.part.clock in
    let t = c.in_ok-as_mut-in-Some.field-0.now in
    let same : c.in_ok-work.work.now ≡ t = one_work s c.in_ok-work.work.now t (sym c.in_ok-work.ensures.value) (sym c.in_ok-as_mut-in-Some.ensures.value) in
    does_hear k k s t (Some c.in-Some.outcome) _ (waits_there (goal.at.returns-in_ok-as_mut-in-Some-clause-does c).In_ok-as_mut-in-Some)
    (sym c.in-Some.is ∙ c.outcome.ensures.kept ∙ ap (λ (w : Work). outcome_of w.tid k.outcomes) same) refl

pub returns-in_ok-as_mut-in-Some-clause-leaves : goal.returns-in_ok-as_mut-in-Some-clause-leaves
returns-in_ok-as_mut-in-Some-clause-leaves c =
    let s : Session = c.args.session.now in
    let t = c.in_ok-as_mut-in-Some.field-0.now in
    (t, waits_there (goal.at.returns-in_ok-as_mut-in-Some-clause-leaves c).In_ok-as_mut-in-Some, ap (λ w. record s { work = Some w }) (same_heard t (Some c.in-Some.outcome) _))

pub returns-in-None-clause-does : goal.returns-in-None-clause-does
returns-in-None-clause-does c = does_hear_none c.args.home.now.part.clock c.args.home.now.part.clock c.args.session.now c.in_ok-work.work.now (waits (goal.at.returns-in-None-clause-does c).After-outcome) (sym c.in-None.is ∙ c.outcome.ensures.kept) refl

pub returns-in-None-clause-leaves : goal.returns-in-None-clause-leaves
returns-in-None-clause-leaves c = (c.in_ok-work.work.now, waits (goal.at.returns-in-None-clause-leaves c).After-outcome, waits_still c.args.session.now c.in_ok-work.work.now (waits (goal.at.returns-in-None-clause-leaves c).After-outcome))
