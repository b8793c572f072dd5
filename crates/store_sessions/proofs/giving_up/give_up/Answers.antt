use Rattle.store_sessions.proofs.Undoing.{undoes_none, undoes_more, fewer, ends, ends_faulted}
use Rattle.store_sessions.proofs.giving_up.give_up.Goals as goal

pub loop-v-init : goal.loop-v-init
loop-v-init g c = undoes_none c.args.board.now.turns c.args.board.now.shards c.args.pass.now c.args.session.now c.requires.stands c.requires.lost.0 c.requires.lost.1 c.requires.lost.2

pub loop-v-smaller : goal.loop-v-smaller
loop-v-smaller g c =
    let next = c.in-Some.ensures.some in
    fewer c.args.board.now.turns c.args.board.now.shards c.args.pass.now c.loop-v.pass c.by_shard.new.pass c.args.session.now c.loop-v.session c.by_shard.new.session c.in-Some.v c.loop-v.invariant next.0 next.1 next.2 c.by_shard.result c.by_shard.ensures.leaves

pub loop-v-preserved : goal.loop-v-preserved
loop-v-preserved g c =
    let next = c.in-Some.ensures.some in
    undoes_more c.args.board.now.turns c.args.board.now.shards c.args.pass.now c.loop-v.pass c.by_shard.new.pass c.args.session.now c.loop-v.session c.by_shard.new.session c.in-Some.v c.loop-v.invariant next.0 next.1 next.2 c.by_shard.result c.by_shard.ensures.goes c.by_shard.ensures.leaves

pub returns-clause-goes : goal.returns-clause-goes
returns-clause-goes g c = (ends c.args.board.now.turns c.args.board.now.shards c.args.pass.now c.loop-v.pass c.by_clock.new.pass c.args.session.now c.loop-v.session c.by_clock.new.session c.loop-v.invariant c.in_default.ensures.none c.by_clock.result c.by_clock.ensures.goes c.by_clock.ensures.leaves).0

pub returns-clause-idle : goal.returns-clause-idle
returns-clause-idle g c = (ends c.args.board.now.turns c.args.board.now.shards c.args.pass.now c.loop-v.pass c.by_clock.new.pass c.args.session.now c.loop-v.session c.by_clock.new.session c.loop-v.invariant c.in_default.ensures.none c.by_clock.result c.by_clock.ensures.goes c.by_clock.ensures.leaves).1

pub returns-clause-faulted : goal.returns-clause-faulted
returns-clause-faulted g c = ends_faulted c.args.board.now.turns c.args.board.now.shards c.args.pass.now c.loop-v.pass c.by_clock.new.pass c.args.session.now c.loop-v.session c.loop-v.invariant c.by_clock.new.session c.in_default.ensures.none
    c.by_clock.result c.by_clock.ensures.leaves c.by_clock.ensures.meets
