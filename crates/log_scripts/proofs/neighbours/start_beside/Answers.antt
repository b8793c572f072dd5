use Rattle.edge_log.specs.Rooms.{TakesNew}
use Rattle.edge_log.proofs.BlockLemmas.{apart_among}
use Rattle.log_scripts.proofs.neighbours.start_beside.Goals as goal

-- the new block was not out of the room, and the other log's blocks were
pub returns-clause-apart : goal.returns-clause-apart
returns-clause-apart g c =
    let L = g.L.EdgeLog in
    let before = c.args.room.now in
    let new = L.footprint c.expect.result in
    let taken : TakesNew (L.blocks_out before) (L.blocks_out c.start.new.room) new = rw c.expect.ensures at c.start.ensures.blocks in
    let among = g.met.L.EdgeLog.lies_out c.args.other.now before c.requires in
    apart_among (L.footprint c.args.other.now) (L.blocks_out before) new among taken.apart
