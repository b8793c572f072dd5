use Rattle.store_sessions.proofs.MakeMoves.{make_stays}
use Rattle.store_sessions.proofs.making.make_drawn.Goals as goal

pub returns-clause-session : goal.returns-clause-session
returns-clause-session g c = make_stays c.args.v c.args.p.now c.by_shard.result c.args.session.now c.by_shard.new.session (c.requires.drawn.0, c.requires.drawn.1) c.by_shard.ensures.leaves
