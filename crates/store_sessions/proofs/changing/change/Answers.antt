use Rattle.std.proofs.Common.{arith}
use Rattle.store_sessions.proofs.Tries.{may_leave, no_look, look_more, change_ends, ended_leaves, held_up}
use Rattle.store_sessions.proofs.changing.change.Goals as goal

pub loop-looks-init : goal.loop-looks-init
loop-looks-init g c = no_look c.args.board.now.turns c.args.board.now.shards c.args.change.now c.args.pass.now c.args.session.now c.requires.stands c.requires.works

pub returns-in-Ends-clause-goes : goal.returns-in-Ends-clause-goes
returns-in-Ends-clause-goes g c =
    let low = c.loop-looks-test.true in
    change_ends c.args.board.now.turns c.args.board.now.shards c.args.change.now c.args.pass.now c.loop-looks.pass c.try_change.new.pass c.args.session.now c.loop-looks.session c.try_change.new.session c.loop-looks.looks c.loop-looks.invariant
    (omega (arith, low)) c.in-Ends.end c.in-Ends.ensures.goes

pub returns-in-Ends-clause-session : goal.returns-in-Ends-clause-session
returns-in-Ends-clause-session g c =
    ended_leaves c.args.board.now.turns c.args.board.now.shards c.args.change.now c.args.pass.now c.loop-looks.pass c.try_change.new.pass c.args.session.now c.loop-looks.session c.try_change.new.session c.loop-looks.looks c.loop-looks.invariant
    c.in-Ends.end c.in-Ends.ensures.session

pub loop-looks-preserved : goal.loop-looks-preserved
loop-looks-preserved g c =
    look_more c.args.board.now.turns c.args.board.now.shards c.args.change.now c.args.pass.now c.loop-looks.pass c.try_change.new.pass c.args.session.now c.loop-looks.session c.try_change.new.session c.loop-looks.looks c.loop-looks.invariant
    c.in-Held.owner c.in-Held.ensures.goes c.in-Held.ensures.session

pub give_up-requires-clause-lost : goal.give_up-requires-clause-lost
give_up-requires-clause-lost g c =
    let at = c.in-Held-try_change.ensures.session in
    may_leave c.try_change-2.new.session at.after at.works

pub returns-in-Held-try_change-clause-goes : goal.returns-in-Held-try_change-clause-goes
returns-in-Held-try_change-clause-goes g c =
    let high = c.loop-looks-test.false in
    let end = c.loop-looks.auto.looks-end in
    held_up c.args.board.now.turns c.args.board.now.shards c.args.change.now c.args.pass.now c.loop-looks.pass c.try_change-2.new.pass c.args.session.now c.loop-looks.session c.try_change-2.new.session c.loop-looks.looks c.loop-looks.invariant
    (omega (arith, high, end)) c.vertex.result c.in-Held-try_change.owner c.give_up.new.pass c.give_up.new.session c.vertex.ensures c.in-Held-try_change.ensures.goes c.give_up.ensures.goes

pub returns-in-Ends-try_change-clause-goes : goal.returns-in-Ends-try_change-clause-goes
returns-in-Ends-try_change-clause-goes g c =
    let end = c.loop-looks.auto.looks-end in
    change_ends c.args.board.now.turns c.args.board.now.shards c.args.change.now c.args.pass.now c.loop-looks.pass c.try_change-2.new.pass c.args.session.now c.loop-looks.session c.try_change-2.new.session c.loop-looks.looks c.loop-looks.invariant
    (omega (arith, end)) c.in-Ends-try_change.end c.in-Ends-try_change.ensures.goes

pub returns-in-Ends-try_change-clause-session : goal.returns-in-Ends-try_change-clause-session
returns-in-Ends-try_change-clause-session g c =
    ended_leaves c.args.board.now.turns c.args.board.now.shards c.args.change.now c.args.pass.now c.loop-looks.pass c.try_change-2.new.pass c.args.session.now c.loop-looks.session c.try_change-2.new.session c.loop-looks.looks c.loop-looks.invariant
    c.in-Ends-try_change.end c.in-Ends-try_change.ensures.session
