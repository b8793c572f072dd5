use Rattle.store_commits.proofs.Applied.{applied_none, applied_more, fewer, won_still}
use Rattle.store_commits.proofs.applying.apply_all.Goals as goal

pub loop-v-init : goal.loop-v-init
loop-v-init g c t e won = applied_none c.args.board.now.turns c.args.board.now.shards c.args.pass.now c.args.session.now c.requires.stands t e won

pub loop-v-smaller : goal.loop-v-smaller
loop-v-smaller g c =
    let next = c.in-Some.ensures.some in let won = c.requires.won in
    fewer c.args.board.now.turns c.args.board.now.shards won.1 c.args.pass.now c.loop-v.pass c.by_shard.new.pass c.args.session.now c.loop-v.session c.by_shard.new.session c.in-Some.v (c.loop-v.invariant won.0 won.1 won.2) next.0 next.1 next.2 c.by_shard.result c.by_shard.ensures.leaves

pub loop-v-preserved : goal.loop-v-preserved
loop-v-preserved g c t e won =
    let next = c.in-Some.ensures.some in
    applied_more c.args.board.now.turns c.args.board.now.shards e c.args.pass.now c.loop-v.pass c.by_shard.new.pass c.args.session.now c.loop-v.session c.by_shard.new.session c.in-Some.v (c.loop-v.invariant t e won) next.0 next.1 next.2 c.by_shard.result c.by_shard.ensures.goes c.by_shard.ensures.leaves

pub returns-clause-goes : goal.returns-clause-goes
returns-clause-goes g c = let won = c.requires.won in let so_far = c.loop-v.invariant won.0 won.1 won.2 in (so_far.events, so_far.applies, so_far.goes)

pub returns-clause-won : goal.returns-clause-won
returns-clause-won g c t e won =
    won_still c.args.board.now.turns c.args.board.now.shards e c.args.pass.now c.loop-v.pass c.args.session.now c.loop-v.session (c.loop-v.invariant t e won) c.in_default.ensures.none

pub by_shard-requires : goal.by_shard-requires
by_shard-requires g c = let won = c.requires.won in record { stands = (c.loop-v.invariant won.0 won.1 won.2).goes.stands }
