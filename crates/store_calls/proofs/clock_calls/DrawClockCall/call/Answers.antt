use Rattle.std.proofs.Common.{sym, ap, Some}
use Rattle.epoch_clock.specs.EpochStates.{EpochState}
use Rattle.store_turns.specs.declared.session.Session.{Session}
use Rattle.store_turns.specs.Moves.{Works}
use Rattle.store_calls.proofs.Works.{works_too, same_drawn}
use Rattle.store_calls.proofs.ClockMoves.{does_draw, does_draw_spent}
use Rattle.store_calls.proofs.Answering.{some_not}
use Rattle.store_calls.proofs.clock_calls.DrawClockCall.call.Goals as goal
use Rattle.store_calls.proofs.clock_calls.DrawClockCall.call.Goals.{In_ok-as_mut-in-Some}

-- the transaction to which the number is noted works
works : (c : In_ok-as_mut-in-Some) → Works c.args.session.now c.in_ok-as_mut-in-Some.field-0.now
works c = works_too c.args.session.now c.in_ok-working.field-0.now c.in_ok-as_mut-in-Some.field-0.now c.in_ok-working.ensures.some (sym c.in_ok-as_mut-in-Some.ensures.value)

pub returns-in_ok-as_mut-in-Some-clause-does : goal.returns-in_ok-as_mut-in-Some-clause-does
returns-in_ok-as_mut-in-Some-clause-does c =
    does_draw c.args.home.now.part.clock c.draw.new.self.clock c.args.session.now c.in_ok-as_mut-in-Some.field-0.now c.in-Some.v _ (works (goal.at.returns-in_ok-as_mut-in-Some-clause-does c).In_ok-as_mut-in-Some)
    (λ over. some_not c.draw.result c.in-Some.v c.in-Some.is (c.draw.ensures.spent.1 over)) c.in-Some.ensures.number c.in-Some.ensures.drawn

pub returns-in_ok-as_mut-in-Some-clause-leaves : goal.returns-in_ok-as_mut-in-Some-clause-leaves
returns-in_ok-as_mut-in-Some-clause-leaves c =
    let s : Session = c.args.session.now in
    let t = c.in_ok-as_mut-in-Some.field-0.now in
    (t, works (goal.at.returns-in_ok-as_mut-in-Some-clause-leaves c).In_ok-as_mut-in-Some, ap (λ w. record s { work = Some w }) (same_drawn t c.in-Some.v _))

pub returns-in-None-clause-does : goal.returns-in-None-clause-does
returns-in-None-clause-does c =
    does_draw_spent c.args.home.now.part.clock c.draw.new.self.clock c.args.session.now c.in_ok-working.field-0.now c.in_ok-working.ensures.some
    (c.draw.ensures.spent.0 c.in-None.is) (ap (λ (s : EpochState). s.clock) c.in-None.ensures.unchanged)
