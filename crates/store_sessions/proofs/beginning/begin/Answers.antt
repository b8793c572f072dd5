use Rattle.std.proofs.Common.{sym, subst}
use Rattle.core_states.specs.declared.event.Act.TheVariants as act
use Rattle.turn_board.specs.Board.{known}
use Rattle.store_turns.specs.Fits.{name_in}
use Rattle.store_turns.specs.Grows.{told_if}
use Rattle.store_sessions.specs.Beginning.{BeginTells, BeginLeaves}
use Rattle.store_sessions.proofs.BeginMoves.{begin_so}
use Rattle.store_sessions.proofs.BeginSights.{begin_sees}
use Rattle.store_sessions.proofs.beginning.begin.Goals as goal

pub returns-clause-goes : goal.returns-clause-goes
returns-clause-goes g c =
    let ts = told_if (λ _. act.Begin) c.by_clock.result in
    (ts, subst (λ r. BeginTells r ts) (sym c.begun_by.ensures) (begin_so c.by_clock.result c.args.session.now c.by_clock.new.session c.by_clock.ensures.leaves).0, c.by_clock.ensures.goes)

pub returns-clause-session : goal.returns-clause-session
returns-clause-session g c = subst (λ r. BeginLeaves r c.args.session.now c.by_clock.new.session) (sym c.begun_by.ensures) (begin_so c.by_clock.result c.args.session.now c.by_clock.new.session c.by_clock.ensures.leaves).1

pub returns-clause-newest : goal.returns-clause-newest
returns-clause-newest g c =
    let v = known c.args.pass.now in
    let tells = subst (λ r. BeginTells r (told_if (λ _. act.Begin) c.by_clock.result)) (sym c.begun_by.ensures) (begin_so c.by_clock.result c.args.session.now c.by_clock.new.session c.by_clock.ensures.leaves).0 in
    begin_sees c.begun_by.result c.by_clock.result (name_in v c.args.session.now.index) v (known c.by_clock.new.pass) tells c.by_clock.ensures.meets
