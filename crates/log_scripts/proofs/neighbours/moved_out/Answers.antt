use Rattle.edge_log.specs.Rooms.{TakesNew}
use Rattle.edge_log.proofs.BlockLemmas.{apart_sym, apart_among}
use Rattle.log_scripts.proofs.neighbours.moved_out.Goals as goal

-- the new block was not out of the room, and the other log's blocks were
pub returns-clause-apart : goal.returns-clause-apart
returns-clause-apart g c =
    let L = g.L.EdgeLog in
    let before = c.args.room.now in
    let new = L.footprint c.prepare.new.self in
    let other = L.footprint c.args.other.now in
    let taken : TakesNew (L.blocks_out before) (L.blocks_out c.prepare.new.room) new = rw (c.expect-moved.ensures, c.expect-old.ensures) at c.prepare.ensures.blocks in
    let among = g.met.L.EdgeLog.lies_out c.args.other.now before c.requires.other in
    apart_sym other new (apart_among other (L.blocks_out before) new among taken.apart)

pub returns-clause-old_apart : goal.returns-clause-old_apart
returns-clause-old_apart g c =
    let L = g.L.EdgeLog in
    let moved = rw (c.expect-moved.ensures, c.expect-old.ensures) at c.prepare.ensures.moved in
    apart_sym (L.old_footprint c.expect-old.result) (L.footprint c.prepare.new.self) moved.3

pub returns-clause-other_apart : goal.returns-clause-other_apart
returns-clause-other_apart g c =
    let L = g.L.EdgeLog in
    let moved = rw (c.expect-moved.ensures, c.expect-old.ensures) at c.prepare.ensures.moved in
    rw moved.2 (apart_sym (L.footprint c.args.log.now) (L.footprint c.args.other.now) c.requires.apart)
