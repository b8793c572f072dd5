use Rattle.turn_board.specs.Board.{known}
use Rattle.store_trial.proofs.Hands.{last_again}
use Rattle.store_trial.proofs.run_phase.Goals as goal

pub returns-clause-last : goal.returns-clause-last
returns-clause-last g c = last_again (known c.args.pass) (known c.crowd-pass.result.0) c.requires.last c.crowd-pass.ensures.back c.crowd-pass.ensures.free.0.held
