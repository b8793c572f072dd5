use Rattle.edge_log.proofs.BlockLemmas.{apart_sym}
use Rattle.log_scripts.proofs.neighbours.step_beside.Goals as goal

pub returns-clause-other_apart : goal.returns-clause-other_apart
returns-clause-other_apart g c =
    let L = g.L.EdgeLog in
    apart_sym (L.footprint c.apply.new.log) (L.footprint c.args.other.now)
    (c.apply.ensures.leaves_logs c.args.other.now c.requires.other c.requires.apart).2
