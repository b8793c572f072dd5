use Rattle.turn_board.specs.Works.{giving}
use Rattle.turn_board.proofs.board.TurnBoard.give.Given as goal

abbrev pub ghosts-bring_home : goal.ghosts-bring_home
ghosts-bring_home g a = record { next = giving (g.E.Happens.events a._done.now a.pass.now.me.0) a.pass.now.me.0; given = (g.H.ShowsPart.shown a.value).part }
