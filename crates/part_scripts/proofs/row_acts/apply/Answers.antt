use Rattle.std.proofs.Common.{sym, ◌∙◌}
use Rattle.shard_state.specs.Shards.{row_at, limits_with}
use Rattle.part_scripts.proofs.Acts.{limits_are, did_apply}
use Rattle.part_scripts.proofs.row_acts.apply.Goals as goal

pub apply-requires-clause-told : goal.apply-requires-clause-told
apply-requires-clause-told g c = λ none. c.requires.fits.plain (sym c.changes.ensures ∙ none) (sym c.if-not-holds.ensures) c.in_ok-epoch.epoch

pub returns-clause-did : goal.returns-clause-did
returns-clause-did g c =
    let content = g.L.EdgeLog.content in
    did_apply (limits_with c.args.shard.now.log_most) c.args.x.now c.args.v c.in_ok-epoch.epoch c.changes.result (row_at content c.args.shard.now c.args.v) (row_at content c.apply.new.self c.args.v)
    (limits_are c.args.shard.now.log_most c.requires.most) (sym c.in_ok-epoch.ensures) (sym c.if-not-holds.ensures) c.changes.ensures c.apply.ensures.event
