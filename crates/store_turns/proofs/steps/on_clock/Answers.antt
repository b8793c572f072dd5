use Rattle.std.proofs.Common.{◌≡◌, ◌∙◌, ℕ, sym, ap, subst}
use Rattle.core_states.specs.Parts.{OfClock}
use Rattle.turn_board.specs.Board.{known, turns}
use Rattle.turn_board.specs.Spread.{turns_in}
use Rattle.turn_board.specs.Turns.{Told}
use Rattle.turn_board.specs.Views.{View, taking}
use Rattle.store_turns.specs.Grows.{Grew, told_if}
use Rattle.store_turns.specs.Fits.{Fits, name_in}
use Rattle.store_turns.specs.Seeing.{MeetsClock}
use Rattle.store_turns.proofs.ClockSteps.{gives, leads}
use Rattle.store_turns.proofs.Knowing.{known_clock, met_clock}
use Rattle.store_turns.proofs.steps.on_clock.Goals as goal
use Rattle.store_turns.proofs.steps.on_clock.Goals.{After-give}
use Rattle.store_turns.proofs.steps.on_clock.Given.{Over}

pub call_clock-answer-requires : goal.call_clock-answer-requires
call_clock-answer-requires g c =
    let same : turns c.take_clock-home.new.pass ≡ turns c.args.pass.now = ap (λ t. turns_in t.slots) c.take_clock-home.ensures.keeps.0 in
    let taken : known c.take_clock-home.new.pass ≡ taking c.args.turn (OfClock c.take_clock-home.result.value.part.clock) (known c.args.pass.now) = ap (λ m. m.0) c.take_clock-home.ensures.taken in record {
      known = known_clock (turns c.args.pass.now) c.args.turn (known c.args.pass.now) c.take_clock-home.result.value.part.clock c.args.session.now c.requires.turn c.requires.fits
          (subst (λ (z : ℕ × View). Told z.0 z.1) (λ i. (same i, taken i)) c.take_clock-home.ensures.told);
    }

-- what the pass knows after the give
given : (g : Over) (c : After-give g) → Grew (name_in (known c.args.pass.now) c.args.session.now.index) (told_if (g.C.ClockCall.acts c.args.call.now) c.call_clock-answer.result) (known c.args.pass.now) (known c.give.new.pass)
    × Fits c.call_clock-answer.new.session (known c.give.new.pass)
    × MeetsClock (g.C.ClockCall.acts c.args.call.now) c.call_clock-answer.result (name_in (known c.args.pass.now) c.args.session.now.index) (known c.args.pass.now) (known c.give.new.pass)
given g c =
    let v = known c.args.pass.now in
    let same : turns c.take_clock-home.new.pass ≡ turns c.args.pass.now = ap (λ t. turns_in t.slots) c.take_clock-home.ensures.keeps.0 in
    let taken : known c.take_clock-home.new.pass ≡ taking c.args.turn (OfClock c.take_clock-home.result.value.part.clock) v = ap (λ m. m.0) c.take_clock-home.ensures.taken in
    gives c.args.turn v (known c.take_clock-home.new.pass) (known c.give.new.pass) c.args.session.now c.call_clock-answer.new.session c.take_clock-home.result.value.part.clock c.call_clock-answer.new.home.value.part.clock (g.C.ClockCall.acts c.args.call.now) c.requires.ready.1 c.call_clock-answer.ensures.reach c.requires.fits c.call_clock-answer.ensures.same
    (met_clock (turns c.args.pass.now) c.args.turn v c.take_clock-home.result.value.part.clock c.requires.turn (subst (λ (z : ℕ × View). Told z.0 z.1) (λ i. (same i, taken i)) c.take_clock-home.ensures.told)) c.call_clock-answer.result c.call_clock-answer.ensures.does taken (ap (λ m. m.0) c.give.ensures.given) c.give.ensures.newest

pub returns-clause-grew : goal.returns-clause-grew
returns-clause-grew g c = (given g (goal.at.returns-clause-grew g c).After-give).0

pub returns-clause-fits : goal.returns-clause-fits
returns-clause-fits g c = (given g (goal.at.returns-clause-fits g c).After-give).1

pub returns-clause-meets : goal.returns-clause-meets
returns-clause-meets g c = (given g (goal.at.returns-clause-meets g c).After-give).2

pub give-requires-clause-events : goal.give-requires-clause-events
give-requires-clause-events g c =
    let same : turns c.take_clock-home.new.pass ≡ turns c.args.pass.now = ap (λ t. turns_in t.slots) c.take_clock-home.ensures.keeps.0 in
    leads (turns c.take_clock-home.new.pass) c.args.turn (known c.args.pass.now) (known c.take_clock-home.new.pass) c.args.session.now c.call_clock-answer.new.session c.take_clock-home.result.value.part.clock c.call_clock-answer.new.home.value.part.clock (g.C.ClockCall.acts c.args.call.now) (c.requires.turn ∙ sym same)
    c.requires.ready.1 c.call_clock-answer.ensures.reach c.requires.fits c.call_clock-answer.ensures.same c.call_clock-answer.result c.call_clock-answer.ensures.does (ap (λ m. m.0) c.take_clock-home.ensures.taken)
