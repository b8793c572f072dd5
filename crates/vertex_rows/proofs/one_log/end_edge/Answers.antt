use Rattle.std.proofs.Common.{◌∙◌}
use Rattle.vertex_rows.proofs.one_log.end_edge.Goals as goal

pub returns-clause-keeps_logs : goal.returns-clause-keeps_logs
returns-clause-keeps_logs g c log standing apart =
    let m = g.L.EdgeLog in
    let one = c.make_room.ensures.keeps_logs log standing apart in
    let beside = c.make_room.ensures.apart (m.footprint log) (g.met.L.EdgeLog.lies_out log c.args.room.now standing) apart in
    let two = c.end_entry.ensures.keeps_logs log one.0 beside in
    (two.0, two.1 ∙ one.1, two.2 ∙ one.2)
