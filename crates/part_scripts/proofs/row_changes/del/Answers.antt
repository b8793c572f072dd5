use Rattle.graph_model.specs.declared.change.Change.TheVariants as change
use Rattle.core_states.specs.declared.event.Act.TheVariants as act
use Rattle.shard_state.specs.Shards.{row_at, limits_with}
use Rattle.shard_state.specs.Says.{says_taken}
use Rattle.part_scripts.proofs.Acts.{limits_are, did_change}
use Rattle.part_scripts.proofs.row_changes.del.Goals as goal

pub returns-clause-did : goal.returns-clause-did
returns-clause-did g c =
    let content = g.L.EdgeLog.content in
    did_change (limits_with c.args.shard.now.log_most) c.in-Some.who c.args.x.now (act.Del c.args.v c.args.l c.args.d) (change.Del c.args.v c.args.l c.args.d) (row_at content c.args.shard.now c.args.v) (row_at content c.del.new.self c.args.v) (says_taken c.del.result) c.taken.result
    (limits_are c.args.shard.now.log_most c.requires.most) c.in-Some.ensures.speaks c.del.ensures.event c.taken.ensures
