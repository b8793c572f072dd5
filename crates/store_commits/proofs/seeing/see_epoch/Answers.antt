use Rattle.std.proofs.Common.{◌∙◌, ap}
use Rattle.store_turns.specs.declared.session.Session.{Session}
use Rattle.store_commits.proofs.Seen.{asked_none, asked_more, seen_after}
use Rattle.store_commits.proofs.seeing.see_epoch.Goals as goal

pub loop-init : goal.loop-init
loop-init g c = asked_none c.args.board.now.turns c.args.board.now.shards c.args.pass.now c.args.session.now c.requires.stands

pub returns-then-ask-clause-goes : goal.returns-then-ask-clause-goes
returns-then-ask-clause-goes g c = seen_after c.args.board.now.turns c.args.board.now.shards c.args.pass.now c.loop.pass c.ask.new.pass c.args.session.now c.loop.session c.ask.new.session c.ask.result c.if-ask.true c.loop.invariant c.ask.ensures.goes

pub returns-then-ask-clause-seen : goal.returns-then-ask-clause-seen
returns-then-ask-clause-seen g c e done = c.ask.ensures.seen e (ap (λ (s : Session). s.finished) c.loop.invariant.same ∙ done) c.if-ask.true

pub loop-preserved : goal.loop-preserved
loop-preserved g c = asked_more c.args.board.now.turns c.args.board.now.shards c.args.pass.now c.loop.pass c.ask.new.pass c.args.session.now c.loop.session c.ask.new.session c.ask.result c.loop.invariant c.ask.ensures.goes c.ask.ensures.keeps
