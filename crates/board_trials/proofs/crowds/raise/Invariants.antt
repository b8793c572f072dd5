use Rattle.std.proofs.Common.{◌≡◌, []}
use Rattle.turn_board.specs.Board.{known, Ready}
use Rattle.board_trials.specs.Passes.{StaysAs}
use Rattle.board_trials.proofs.crowds.raise.Given as goal

abbrev pub invariant-loop : goal.invariant-loop
invariant-loop g l = (l.pass.table_id ≡ l.fn.pass.table_id) × (Ready l.pass × ((known l.pass).held ≡ [])) × StaysAs (known l.fn.pass) (known l.pass)
