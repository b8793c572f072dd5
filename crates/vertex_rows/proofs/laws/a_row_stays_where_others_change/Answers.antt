use Rattle.vertex_rows.proofs.Elsewhere.{row_lies_out, row_stays}
use Rattle.vertex_rows.proofs.laws.a_row_stays_where_others_change.Goals as goal

pub returns-clause-lies_out : goal.returns-clause-lies_out
returns-clause-lies_out g c row room is =
    let m = g.L.EdgeLog in
    row_lies_out m.stands m.footprint m.content m.limit (m.blocks_out room) row room (λ log standing. g.met.L.EdgeLog.lies_out log room standing) is

pub returns-clause-stands : goal.returns-clause-stands
returns-clause-stands g c blocks row old new keeps apart is =
    let m = g.L.EdgeLog in
    (row_stays m.stands m.footprint m.content m.spare m.limit blocks row old new keeps apart is).0

pub returns-clause-same : goal.returns-clause-same
returns-clause-same g c blocks row old new keeps apart is =
    let m = g.L.EdgeLog in
    (row_stays m.stands m.footprint m.content m.spare m.limit blocks row old new keeps apart is).1
