use Rattle.std.proofs.Common.{sym, ◌∙◌}
use Rattle.store_calls.proofs.Answering.{none_is}
use Rattle.store_calls.proofs.CommitMoves.{does_see}
use Rattle.store_calls.proofs.commit_calls.SeeClockCall.call.Goals as goal

pub returns-clause-does : goal.returns-clause-does
returns-clause-does c =
    does_see c.args.home.now.part.clock c.args.session.now c.in_ok-epoch.epoch c.seen.result (none_is c.args.session.now.work (sym c.is_some.ensures ∙ c.if-is_some.false)) c.in_ok-epoch.was c.seen.ensures.visible
