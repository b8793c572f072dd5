use Rattle.std.proofs.Common.{ap, rules}
use Rattle.turn_board.specs.Board.{known}
use Rattle.board_trials.specs.Passes.{CameBack}
use Rattle.board_trials.proofs.Coming.{came_back}
use Rattle.board_trials.proofs.crowds.«+crowd+fn-crowd-join+arg2+fn-crowd-join+arg3».Goals as goal

pub returns-clause-back : goal.returns-clause-back
returns-clause-back g t c =
    let left : CameBack (known c.split-second.new.pass) (known c.join-first.result.0) = search rules in
    let right : CameBack (known c.split-second.result) (known c.join-first.result.1) = search rules in
    came_back (known c.args.pass) (known c.split-second.new.pass) (known c.split-second.result) (known c.join-first.result.0) (known c.join-first.result.1) (known c.join.new.into)
    (ap (λ m. m.0) c.split-second.ensures.left) (ap (λ m. m.0) c.split-second.ensures.right.1) left right (ap (λ m. m.0) c.join.ensures.both)
