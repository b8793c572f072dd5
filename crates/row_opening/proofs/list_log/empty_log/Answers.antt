use Rattle.row_opening.proofs.Trading.{traded-new}
use Rattle.row_opening.proofs.list_log.empty_log.Goals as goal

pub returns-in-Ok-clause-out : goal.returns-in-Ok-clause-out
returns-in-Ok-clause-out g c =
    let m = g.L.EdgeLog in
    traded-new (m.blocks_out c.args.room.now) (m.blocks_out c.start.new.room) (m.footprint c.in-Ok.log) c.in-Ok.ensures.blocks
