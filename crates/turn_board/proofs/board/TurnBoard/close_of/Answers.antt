use Rattle.std.proofs.Common.{List, Option, sym, subst}
use Rattle.turn_board.specs.Board.{Ends}
use Rattle.turn_board.proofs.Closing.{closes, spread_still}
use Rattle.turn_board.specs.Starts.{start_in}
use Rattle.turn_board.proofs.board.TurnBoard.close_of.Goals as goal

pub all_out-requires-clause-spread : goal.all_out-requires-clause-spread
all_out-requires-clause-spread g c = spread_still (start_in g.H.ShowsPart.shown c.args.self.table.shared.key) g.H.ShowsPart.shown _ _ c.args.pass.id c.args.pass.me.0 c.close_with.ensures.values.2

pub returns : goal.returns
returns g c = record {
  ends = subst (λ (xs : List (Option g.row.H.Denot)). Ends g.H.ShowsPart.shown xs c.args.pass.me.0) (sym c.all_out.ensures)
      (closes (start_in g.H.ShowsPart.shown c.args.self.table.shared.key) g.H.ShowsPart.shown _ _ c.args.pass.id c.args.pass.me.0 c.requires.ready.0 c.requires.last c.close_with.ensures.values.2);
}
