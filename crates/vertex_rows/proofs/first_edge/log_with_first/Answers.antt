use Rattle.vertex_rows.proofs.Fresh.{keeps_logs-fresh, keeps_olds-fresh}
use Rattle.vertex_rows.proofs.first_edge.log_with_first.Goals as goal

pub returns-clause-keeps_logs : goal.returns-clause-keeps_logs
returns-clause-keeps_logs g c =
    let m = g.L.EdgeLog in
    keeps_logs-fresh m.stands m.footprint m.content m.spare (m.blocks_out c.args.room.now) (m.footprint c.in_ok-log.log) c.args.room.now c.start.new.room c.append.new.room c.start.ensures.keeps_logs c.in_ok-log.ensures.blocks.apart (λ log standing. g.met.L.EdgeLog.lies_out log c.args.room.now standing) c.append.ensures.keeps_logs

pub returns-clause-keeps_olds : goal.returns-clause-keeps_olds
returns-clause-keeps_olds g c =
    let m = g.L.EdgeLog in
    keeps_olds-fresh m.old_stands m.old_footprint m.old_content (m.blocks_out c.args.room.now) (m.footprint c.in_ok-log.log) c.args.room.now c.start.new.room c.append.new.room c.start.ensures.keeps_olds c.in_ok-log.ensures.blocks.apart (λ old standing. g.met.L.EdgeLog.old_lies_out old c.args.room.now standing) c.append.ensures.keeps_olds
