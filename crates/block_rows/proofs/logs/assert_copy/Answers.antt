use Rattle.std.proofs.Common.{refl}
use Rattle.edge_log.specs.Rooms.{TakesNew}
use Rattle.edge_log.proofs.BlockLemmas.{apart_sym, apart_among}
use Rattle.block_rows.proofs.logs.assert_copy.Goals as goal

-- the copy lies apart from the log, which was in the room before, so that its release keeps the log
pub returns : goal.returns
returns g c =
    let L = g.L.EdgeLog in
    let log = c.args.log.now in
    let copy = c.expect-copy.result in
    let stands = (c.copy_keeping.ensures.keeps_logs log c.requires refl).0 in
    let new : TakesNew (L.blocks_out c.args.room.now) (L.blocks_out c.copy_keeping.new.room) (L.footprint copy) = rw c.expect-copy.ensures at c.copy_keeping.ensures.blocks in
    let among = g.met.L.EdgeLog.lies_out log c.args.room.now c.requires in
    let apart = apart_sym (L.footprint log) (L.footprint copy) (apart_among (L.footprint log) (L.blocks_out c.args.room.now) (L.footprint copy) among new.apart) in
    (c.release.ensures.keeps_logs log stands (rw c.retire.ensures.blocks apart)).0
