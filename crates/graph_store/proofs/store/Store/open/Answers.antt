use Rattle.std.proofs.Common.{[]}
use Rattle.turn_board.specs.Views.{fresh_view}
use Rattle.store_log.specs.LogValues.{found_on}
use Rattle.store_opening.specs.Opened.{start_with}
use Rattle.graph_store.proofs.Heard.{heard_as, heard_first}
use Rattle.graph_store.proofs.store.Store.open.Goals as goal

pub new-requires : goal.new-requires
new-requires g c =
    let start = start_with c.args.base.now c.args.settings.log_most (found_on g.D.Disk.told g.D.Disk.faults c.args.wal.disk g.origin) c.args.settings.shards in
    record { heard = heard_as c.in-Ok.seat (fresh_view start [] [] []) c.in-Ok.ensures.pass c.args.base.now.epoch (heard_first start) }
