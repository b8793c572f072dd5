use Rattle.std.proofs.Common.{sym, subst}
use Rattle.turn_board.specs.Homes.{home_shown}
use Rattle.turn_board.specs.Board.{Ends, known}
use Rattle.turn_board.specs.Views.{start_of}
use Rattle.turn_board.proofs.Laying.{has_ends}
use Rattle.turn_board.proofs.home.«TurnBoard+Home+X+E+W».close.Goals as goal

pub of_values-requires : goal.of_values-requires
of_values-requires g c = let e = c.close_of.ensures.ends in
    has_ends g.X.ShowsRows.rows g.X.ShowsRows.place g.E.ShowsClock.clock g.W.ShowsLog.log g.W.ShowsLog.moment (start_of (known c.args.pass)) e.parts c.close_of.result.items e.shows

pub returns : goal.returns
returns g c = record {
  ends = subst (λ xs. Ends (home_shown g.X.ShowsRows.rows g.X.ShowsRows.place g.E.ShowsClock.clock g.W.ShowsLog.log g.W.ShowsLog.moment) xs (known c.args.pass)) (sym c.of_values.ensures) c.close_of.ensures.ends;
}
