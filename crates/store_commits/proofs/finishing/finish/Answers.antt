use Rattle.std.proofs.Common.{ap}
use Rattle.store_turns.specs.declared.session.Session.{Session}
use Rattle.store_commits.proofs.Finished.{finish_then}
use Rattle.store_commits.proofs.finishing.finish.Goals as goal

pub returns-then-not-finish_and_ask-clause-goes : goal.returns-then-not-finish_and_ask-clause-goes
returns-then-not-finish_and_ask-clause-goes g c =
    finish_then c.args.board.now.turns c.args.board.now.shards c.args.pass.now c.finish_and_ask.new.pass c.see_epoch.new.pass c.args.session.now c.finish_and_ask.new.session c.see_epoch.new.session c.finish_and_ask.result c.finish_and_ask.ensures.goes c.see_epoch.ensures.goes

pub returns-then-not-finish_and_ask-clause-seen : goal.returns-then-not-finish_and_ask-clause-seen
returns-then-not-finish_and_ask-clause-seen g c t e won = c.see_epoch.ensures.seen e (ap (λ (z : Session). z.finished) (c.finish_and_ask.ensures.done t e won))

pub returns-else-not-finish_and_ask-clause-seen : goal.returns-else-not-finish_and_ask-clause-seen
returns-else-not-finish_and_ask-clause-seen g c t e won = c.finish_and_ask.ensures.seen t e won c.if-not-finish_and_ask.false
