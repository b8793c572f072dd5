use Rattle.std.proofs.Common.{◌∙◌, sym}
use Rattle.turn_board.specs.Board.{known}
use Rattle.store_commits.proofs.Seen.{asks, saw}
use Rattle.store_commits.proofs.seeing.ask.Goals as goal

pub returns-clause-goes : goal.returns-clause-goes
returns-clause-goes g c = let done = c.requires.done in
    asks c.args.board.now.turns c.args.board.now.shards c.args.pass.now c.by_clock-answer.new.pass c.args.session.now c.by_clock-answer.new.session c.by_clock-answer.result done.0 done.1 done.2 c.by_clock-answer.ensures.leaves c.by_clock-answer.ensures.goes c.says_visible.result c.says_visible.ensures

pub returns-clause-seen : goal.returns-clause-seen
returns-clause-seen g c e done shown =
    saw (known c.args.pass.now) (known c.by_clock-answer.new.pass) c.args.session.now c.by_clock-answer.new.session c.by_clock-answer.result e c.requires.stands.1 c.requires.done.2 done c.by_clock-answer.ensures.leaves c.by_clock-answer.ensures.meets (sym c.says_visible.ensures ∙ shown)
