use Rattle.std.proofs.Common.{◌∙◌}
use Rattle.edge_log.specs.Rooms.{TakesNew}
use Rattle.edge_log.proofs.BlockLemmas.{apart_sym, apart_among}
use Rattle.log_scripts.proofs.steps.make_room.Goals as goal

-- another log stays apart from the block that is new, and from the old one that is given back
pub returns-in-Ok-Some-clause-leaves_logs : goal.returns-in-Ok-Some-clause-leaves_logs
returns-in-Ok-Some-clause-leaves_logs g c log stands apart =
    let L = g.L.EdgeLog in
    let before = c.args.room.now in
    let new = L.footprint c.prepare.new.self in
    let moved = rw c.in-Ok-Some.field-0-is at c.in-Ok-Some.ensures.moved in
    let taken : TakesNew (L.blocks_out before) (L.blocks_out c.prepare.new.room) new = rw c.in-Ok-Some.field-0-is at c.in-Ok-Some.ensures.blocks in
    let kept = c.prepare.ensures.keeps_logs log stands apart in
    let released = c.release.ensures.keeps_logs log kept.0 (rw moved.2 apart) in
    let among = g.met.L.EdgeLog.lies_out log before stands in
    (released.0, released.1 ∙ kept.1, apart_sym (L.footprint log) new (apart_among (L.footprint log) (L.blocks_out before) new among taken.apart))

-- and so does an Old
pub returns-in-Ok-Some-clause-leaves_olds : goal.returns-in-Ok-Some-clause-leaves_olds
returns-in-Ok-Some-clause-leaves_olds g c old stands apart =
    let L = g.L.EdgeLog in
    let before = c.args.room.now in
    let new = L.footprint c.prepare.new.self in
    let moved = rw c.in-Ok-Some.field-0-is at c.in-Ok-Some.ensures.moved in
    let taken : TakesNew (L.blocks_out before) (L.blocks_out c.prepare.new.room) new = rw c.in-Ok-Some.field-0-is at c.in-Ok-Some.ensures.blocks in
    let kept = c.prepare.ensures.keeps_olds old stands apart in
    let released = c.release.ensures.keeps_olds old kept.0 (rw moved.2 apart) in
    let among = g.met.L.EdgeLog.old_lies_out old before stands in
    (released.0, released.1 ∙ kept.1, apart_sym (L.old_footprint old) new (apart_among (L.old_footprint old) (L.blocks_out before) new among taken.apart))
