use Rattle.store_calls.proofs.ClockMoves.{does_open}
use Rattle.store_calls.proofs.clock_calls.OpenRowClockCall.call.Goals as goal

pub returns-clause-does : goal.returns-clause-does
returns-clause-does c = does_open c.args._home.now.part.clock c.args.session.now c.if-session.false
