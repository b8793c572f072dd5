use Rattle.turn_board.proofs.Ones.{loaded_same}
use Rattle.turn_board.proofs.laws.a_loaded_row_says_the_same.Goals as goal

pub returns : goal.returns
returns c = loaded_same
