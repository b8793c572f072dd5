use Rattle.store_lines.proofs.Shown.{read_ran, unread_ran}
use Rattle.store_lines.proofs.reads.read_line.Goals as goal

pub returns-in-Ok : goal.returns-in-Ok
returns-in-Ok g c = read_ran c.args.board.now.turns c.args.board.now.shards c.args.pass.now c.read.new.pass c.args.session.now c.requires.inside c.args.query.now c.in-Ok.answer c.printed.result c.printed.ensures c.in-Ok.ensures.goes

pub returns-in-Err : goal.returns-in-Err
returns-in-Err g c = unread_ran c.args.board.now.turns c.args.board.now.shards c.args.pass.now c.read.new.pass c.args.session.now c.requires.inside c.args.query.now c.in-Err.ensures.goes
