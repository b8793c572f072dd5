use Rattle.std.proofs.Common.{sym}
use Rattle.shard_state.specs.Shards.{row_at, limits_with}
use Rattle.part_scripts.proofs.Acts.{limits_are, did_make}
use Rattle.part_scripts.proofs.row_changes.make_vertex.Goals as goal

pub returns-clause-did : goal.returns-clause-did
returns-clause-did g c =
    let content = g.L.EdgeLog.content in
    did_make (limits_with c.args.shard.now.log_most) c.in-Some.who c.args.x.now c.args.v c.args.p.now (row_at content c.args.shard.now c.args.v) (row_at content c.new_vertex.new.self c.args.v)
    (limits_are c.args.shard.now.log_most c.requires.most) c.in-Some.ensures.speaks (sym c.if-not-has_number.ensures) c.in_ok-new_vertex.ensures.event
