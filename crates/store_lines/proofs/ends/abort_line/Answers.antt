use Rattle.store_commits.proofs.Committed.{works_lost}
use Rattle.store_lines.proofs.Ended.{aborted_ran}
use Rattle.store_lines.proofs.ends.abort_line.Goals as goal

pub give_up-requires-clause-lost : goal.give_up-requires-clause-lost
give_up-requires-clause-lost g c =
    works_lost c.args.session.now c.requires.inside.1

pub returns : goal.returns
returns g c =
    aborted_ran c.args.board.now.turns c.args.board.now.shards c.args.pass.now c.give_up.new.pass c.args.session.now c.give_up.new.session c.requires.inside c.give_up.ensures.goes c.give_up.ensures.idle
