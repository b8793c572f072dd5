use Rattle.std.proofs.Common.{◌<◌, ◌≤◌, arith}
use Rattle.worker_sessions.proofs.Spacing.{one-filled, all-spaced, all-ready}
use Rattle.worker_sessions.proofs.filling.sessions_from.Goals as goal

pub loop-index-preserved : goal.loop-index-preserved
loop-index-preserved c =
    let low : c.loop-index.index < c.args.limit = let test = c.loop-index-test.true in omega (arith, test) in
    one-filled c.args.first c.args.step c.args.limit c.loop-index.index c.loop-index.sessions.items c.push.new.self.items c.new.result c.loop-index.invariant low c.new.ensures c.in_ok-push.ensures.items

pub returns-clause-ready : goal.returns-clause-ready
returns-clause-ready c =
    let end : c.args.limit ≤ c.loop-index.index = let test = c.loop-index-test.false in omega (arith, test) in
    all-ready c.args.first c.args.step c.args.limit c.loop-index.index c.loop-index.sessions.items c.loop-index.invariant c.requires.step end

pub returns-clause-spaced : goal.returns-clause-spaced
returns-clause-spaced c =
    let end : c.args.limit ≤ c.loop-index.index = let test = c.loop-index-test.false in omega (arith, test) in
    all-spaced c.args.first c.args.step c.args.limit c.loop-index.index c.loop-index.sessions.items c.loop-index.invariant end
