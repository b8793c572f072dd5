use Rattle.std.proofs.Common.{sym, subst}
use Rattle.core_states.specs.declared.event.Act.TheVariants as act
use Rattle.turn_board.specs.Board.{known}
use Rattle.store_turns.specs.Fits.{name_in}
use Rattle.store_turns.specs.Grows.{told_if}
use Rattle.store_sessions.specs.Beginning.{begun_by}
use Rattle.store_sessions.proofs.BeginMoves.{begin_so}
use Rattle.store_sessions.proofs.BeginSights.{begin_sees}
use Rattle.store_tries.specs.Trying.{TryBegins}
use Rattle.store_tries.proofs.Answered.{try_so}
use Rattle.store_tries.proofs.beginning.try_begin.Goals as goal

pub returns-in-Ok : goal.returns-in-Ok
returns-in-Ok g c =
    let was = c.args.session.now in let now = c.try_by_clock.new.session in
    let v = known c.args.pass.now in
    let moved = begin_so c.in-Ok.answer was now c.in-Ok.ensures.leaves in
    let sees = begin_sees (begun_by c.in-Ok.answer) c.in-Ok.answer (name_in v c.args.session.now.index) v (known c.try_by_clock.new.pass) moved.0 c.in-Ok.ensures.meets in
    subst (λ r. TryBegins c.args.board.now.turns c.args.board.now.shards r c.args.pass.now c.try_by_clock.new.pass was now) (sym c.begun_by.ensures)
    (try_so c.args.board.now.turns c.args.board.now.shards c.in-Ok.answer c.args.pass.now c.try_by_clock.new.pass was now
    (record { events = told_if (λ _. act.Begin) c.in-Ok.answer; tells = moved.0; goes = c.in-Ok.ensures.goes; leaves = moved.1; sees = sees }))
