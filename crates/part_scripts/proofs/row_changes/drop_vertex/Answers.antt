use Rattle.graph_model.specs.declared.change.Change.TheVariants as change
use Rattle.core_states.specs.declared.event.Act.TheVariants as act
use Rattle.shard_state.specs.Shards.{row_at, limits_with}
use Rattle.shard_state.specs.Says.{says_done}
use Rattle.part_scripts.proofs.Acts.{limits_are, did_change}
use Rattle.part_scripts.proofs.row_changes.drop_vertex.Goals as goal

pub returns-clause-did : goal.returns-clause-did
returns-clause-did g c =
    let content = g.L.EdgeLog.content in
    did_change (limits_with c.args.shard.now.log_most) c.in-Some.who c.args.x.now (act.Drop c.args.v) (change.Drop c.args.v) (row_at content c.args.shard.now c.args.v) (row_at content c.drop_vertex.new.self c.args.v) (says_done c.drop_vertex.result) c.done.result
    (limits_are c.args.shard.now.log_most c.requires.most) c.in-Some.ensures.speaks c.drop_vertex.ensures.event c.done.ensures
