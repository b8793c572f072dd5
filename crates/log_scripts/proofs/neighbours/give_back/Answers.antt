use Rattle.edge_log.proofs.BlockLemmas.{apart_sym}
use Rattle.log_scripts.proofs.neighbours.give_back.Goals as goal

pub seen_of-left_after-requires : goal.seen_of-left_after-requires
seen_of-left_after-requires g c =
    let L = g.L.EdgeLog in
    (c.release.ensures.keeps_logs c.args.left.now c.requires.left (apart_sym (L.footprint c.args.left.now) (L.old_footprint c.args.old) c.requires.left_apart)).0

pub seen_of-right_after-requires : goal.seen_of-right_after-requires
seen_of-right_after-requires g c =
    let L = g.L.EdgeLog in
    (c.release.ensures.keeps_logs c.args.right.now c.requires.right (apart_sym (L.footprint c.args.right.now) (L.old_footprint c.args.old) c.requires.right_apart)).0

pub returns-clause-left : goal.returns-clause-left
returns-clause-left g c =
    let L = g.L.EdgeLog in
    (c.release.ensures.keeps_logs c.args.left.now c.requires.left (apart_sym (L.footprint c.args.left.now) (L.old_footprint c.args.old) c.requires.left_apart)).0

pub returns-clause-right : goal.returns-clause-right
returns-clause-right g c =
    let L = g.L.EdgeLog in
    (c.release.ensures.keeps_logs c.args.right.now c.requires.right (apart_sym (L.footprint c.args.right.now) (L.old_footprint c.args.old) c.requires.right_apart)).0
