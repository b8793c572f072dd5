use Rattle.core_states.specs.declared.event.Act.TheVariants as act
use Rattle.store_turns.specs.Grows.{told_if}
use Rattle.store_sessions.proofs.Rows.{opens_so}
use Rattle.store_sessions.proofs.opening.open_session.Goals as goal

pub returns-clause-goes : goal.returns-clause-goes
returns-clause-goes g c =
    (told_if (λ _. act.Open) c.by_clock.result, (opens_so c.by_clock.result c.args.session.now c.by_clock.new.session c.requires.closed c.by_clock.ensures.leaves).0, c.by_clock.ensures.goes)

pub returns-clause-session : goal.returns-clause-session
returns-clause-session g c = (opens_so c.by_clock.result c.args.session.now c.by_clock.new.session c.requires.closed c.by_clock.ensures.leaves).1
