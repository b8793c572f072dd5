use Rattle.store_lines.proofs.Ended.{committed_so, ended_so, failed_ran}
use Rattle.store_lines.proofs.ends.commit_line.Goals as goal

pub returns-in-Ok-Committed : goal.returns-in-Ok-Committed
returns-in-Ok-Committed g c =
    committed_so c.args.board.now.turns c.args.board.now.shards c.args.pass.now c.commit.new.pass c.args.session.now c.commit.new.session c.requires.inside c.in-Ok-Committed.epoch c.in-Ok-Committed.field-0 c.in-Ok-Committed.field-0-is c.in-Ok-Committed.ensures.goes c.in-Ok-Committed.ensures.ends

pub returns-in-Ok-Ended : goal.returns-in-Ok-Ended
returns-in-Ok-Ended g c =
    ended_so c.args.board.now.turns c.args.board.now.shards c.args.pass.now c.commit.new.pass c.args.session.now c.commit.new.session c.requires.inside c.in-Ok-Ended.field-0 c.in-Ok-Ended.field-0-is c.in-Ok-Ended.ensures.goes c.in-Ok-Ended.ensures.ends

pub returns-in-Err : goal.returns-in-Err
returns-in-Err g c =
    failed_ran c.args.board.now.turns c.args.board.now.shards c.args.pass.now c.commit.new.pass c.args.session.now c.commit.new.session c.requires.inside c.in-Err.refusal c.refused.result c.refused.ensures c.in-Err.ensures.goes c.in-Err.ensures.ends
