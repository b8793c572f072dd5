use Rattle.std.proofs.Common.{refl}
use Rattle.store_lines.proofs.Ready.{stays_ready}
use Rattle.store_lines.proofs.Changed.{unmade_ran}
use Rattle.store_lines.proofs.changes.make_line.Goals as goal

pub returns-in-Ok : goal.returns-in-Ok
returns-in-Ok g c =
    record { events = c.in-Ok.ensures.goes.0; makes = λ x work. c.in-Ok.ensures.goes.1; goes = c.in-Ok.ensures.goes.2; kind = λ _. refl; ends = tt; ready = stays_ready c.args.session.now c.new_vertex.new.session c.requires.inside c.new_vertex.ensures.session }

pub returns-in-Err : goal.returns-in-Err
returns-in-Err g c =
    unmade_ran c.args.board.now.turns c.args.board.now.shards c.args.pass.now c.new_vertex.new.pass c.args.session.now c.new_vertex.new.session c.requires.inside c.args.p.now c.in-Err.refusal c.refused.result c.refused.ensures c.in-Err.ensures.goes c.new_vertex.ensures.session
