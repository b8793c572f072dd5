use Rattle.turn_board.specs.Board.{known}
use Rattle.turn_board.specs.Views.{IsLast}
use Rattle.store_trial.specs.Hands.{IsFree}
use Rattle.store_trial.proofs.run_all.Given as goal

abbrev pub invariant-loop-phase : goal.invariant-loop-phase
invariant-loop-phase g l = IsFree l.store.board.turns l.store.board.shards l.pass × IsLast (known l.pass)
