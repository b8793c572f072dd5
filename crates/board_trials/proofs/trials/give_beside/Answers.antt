use Rattle.std.proofs.Common.{◌-◌, ◌∙◌, ℕ, sym, ap, subst}
use Rattle.core_states.specs.Parts.{OfClock}
use Rattle.turn_board.specs.Board.{known}
use Rattle.turn_board.specs.Works.{Leads}
use Rattle.board_trials.specs.Opened.{opening_row}
use Rattle.board_trials.specs.Papers.{paper_log}
use Rattle.board_trials.proofs.Opens.{opens_beside}
use Rattle.board_trials.proofs.trials.give_beside.Goals as goal

pub give-requires-clause-events : goal.give-requires-clause-events
give-requires-clause-events c = let v = known c.args.pass.now in
    subst (λ (n : ℕ). Leads (n - 2) v (opening_row v) (OfClock c.args.home.clock)) (sym c.requires.own.1) (opens_beside v c.args.home.clock (paper_log c.args.paper.now) c.requires.ready.1 c.requires.turn).leads

pub returns-clause-held : goal.returns-clause-held
returns-clause-held c = let v = known c.args.pass.now in
    ap (λ m. m.0.held) c.give.ensures.given ∙ (opens_beside v c.args.home.clock (paper_log c.args.paper.now) c.requires.ready.1 c.requires.turn).held
