use Rattle.tel_block.specs.Places.{content_of}
use Rattle.store_rows.proofs.Opening.{rows_opened}
use Rattle.store_rows.proofs.shard_home.ShardHome.opened.Goals as goal

pub returns-clause-rows : goal.returns-clause-rows
returns-clause-rows c =
    let of = c.in_ok-shard.ensures in
    rows_opened content_of c.args.base.now c.in_ok-shard.shard of.shard.among of.loaded of.opened
