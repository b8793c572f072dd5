use Rattle.graph_model.specs.Graph.{asked_vertex}
use Rattle.shard_state.specs.Shards.{row_at, limits_with}
use Rattle.part_scripts.proofs.Acts.{limits_are, did_read}
use Rattle.part_scripts.proofs.row_acts.read.Goals as goal

pub returns-clause-did : goal.returns-clause-did
returns-clause-did g c =
    let content = g.L.EdgeLog.content in
    let v = asked_vertex c.args.q.now in
    did_read (limits_with c.args.shard.now.log_most) c.in-Some.who c.args.x.now c.args.q.now (row_at content c.args.shard.now v) (row_at content c.read.new.self v) c.in_ok-answer.answer
    (limits_are c.args.shard.now.log_most c.requires.most) c.in-Some.ensures.speaks (c.in_ok-answer.ensures.keeps v) c.in_ok-answer.ensures.event
