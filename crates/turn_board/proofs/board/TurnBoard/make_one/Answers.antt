use Rattle.std.proofs.Common.{rules, ◌∙◌, ap}
use Rattle.turn_board.specs.Board.{slots_of}
use Rattle.turn_board.proofs.Joining.{joins}
use Rattle.turn_board.specs.Starts.{start_in}
use Rattle.turn_board.proofs.board.TurnBoard.make_one.Goals as goal

pub join_seat-requires : goal.join_seat-requires
join_seat-requires g c = (
  search rules,
  search rules,
  c.requires.ready.1.1 ∙ ap (λ hs. slots_of hs) c.requires.idle,
  search rules,
  joins (start_in g.H.ShowsPart.shown c.args.self.now.table.shared.key) g.H.ShowsPart.shown c.args.into.now.id c.args.from.id c.args.into.now.me.0 c.args.from.me.0 c.requires.ready.0.0 c.requires.ready.1.0 c.requires.idle,
)
