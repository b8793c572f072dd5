use Rattle.store_lines.proofs.Ended.{begun_ran, unbegun_ran}
use Rattle.store_lines.proofs.ends.begin_line.Goals as goal

pub returns-in-Ok : goal.returns-in-Ok
returns-in-Ok g c =
    begun_ran c.args.board.now.turns c.args.board.now.shards c.args.pass.now c.begin.new.pass c.args.session.now c.begin.new.session c.requires.outside c.in-Ok.begun c.in-Ok.ensures.goes c.in-Ok.ensures.session

pub returns-in-Err : goal.returns-in-Err
returns-in-Err g c =
    unbegun_ran c.args.board.now.turns c.args.board.now.shards c.args.pass.now c.begin.new.pass c.args.session.now c.begin.new.session c.requires.outside c.in-Err.refusal c.refused.result c.refused.ensures c.in-Err.ensures.goes c.in-Err.ensures.session
