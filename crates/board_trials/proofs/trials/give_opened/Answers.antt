use Rattle.std.proofs.Common.{◌-◌, ℕ, sym, subst}
use Rattle.core_states.specs.Parts.{OfClock}
use Rattle.turn_board.specs.Board.{known}
use Rattle.turn_board.specs.Works.{Leads}
use Rattle.board_trials.specs.Opened.{opening_row}
use Rattle.board_trials.proofs.Opens.{opens_alone}
use Rattle.board_trials.proofs.trials.give_opened.Goals as goal

pub give-requires-clause-events : goal.give-requires-clause-events
give-requires-clause-events c = let v = known c.args.pass.now in
    subst (λ (n : ℕ). Leads (n - 2) v (opening_row v) (OfClock c.args.hand.clock)) (sym c.requires.own.1) (opens_alone v c.args.hand.clock c.requires.ready.1 c.requires.turn)
