use Rattle.std.proofs.Common.{sym}
use Rattle.shard_state.specs.Shards.{row_at, limits_with}
use Rattle.part_scripts.proofs.Acts.{limits_are, did_undo}
use Rattle.part_scripts.proofs.row_acts.undo.Goals as goal

pub returns-clause-did : goal.returns-clause-did
returns-clause-did g c =
    let content = g.L.EdgeLog.content in
    did_undo (limits_with c.args.shard.now.log_most) c.args.x.now c.args.v (row_at content c.args.shard.now c.args.v) (row_at content c.undo.new.self c.args.v)
    (limits_are c.args.shard.now.log_most c.requires.most) (sym c.if-not-is_loser.ensures) (sym c.if-not-holds.ensures) c.undo.ensures.event
