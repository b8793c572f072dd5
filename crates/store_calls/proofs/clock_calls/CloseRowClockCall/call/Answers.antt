use Rattle.std.proofs.Common.{sym, ◌∙◌}
use Rattle.store_calls.proofs.Answering.{none_is}
use Rattle.store_calls.proofs.ClockMoves.{does_close}
use Rattle.store_calls.proofs.clock_calls.CloseRowClockCall.call.Goals as goal

pub returns-clause-does : goal.returns-clause-does
returns-clause-does c =
    does_close c.args._home.now.part.clock c.args.session.now c.if-not-session.false (none_is c.args.session.now.work (sym c.is_some.ensures ∙ c.if-is_some.false))
