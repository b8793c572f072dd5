use Rattle.std.proofs.Common.{ap}
use Rattle.turn_board.specs.Board.{known}
use Rattle.board_trials.specs.Opened.{small_start}
use Rattle.board_trials.proofs.Coming.{is_last}
use Rattle.board_trials.proofs.crowds.counted.Goals as goal

pub close-requires-clause-last : goal.close-requires-clause-last
close-requires-clause-last g c = is_last (small_start c.args.count) _ (known c.crowd-last.result) (ap (λ m. m.0) c.in_ok-board.ensures.pass) c.crowd-last.ensures.back c.crowd-last.ensures.ready.1
