use Rattle.turn_board.specs.Boards.{base_of}
use Rattle.turn_board.proofs.board.TurnBoard.join.Given as goal

abbrev pub ghosts-look_at_base : goal.ghosts-look_at_base
ghosts-look_at_base g a = record { base = base_of a.self.now }
