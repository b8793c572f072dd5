use Rattle.turn_board.proofs.Splitting.{splits}
use Rattle.turn_board.proofs.Taking.{first_word}
use Rattle.turn_board.specs.Spread.{turns_in}
use Rattle.turn_board.specs.Starts.{start_in}
use Rattle.turn_board.proofs.board.TurnBoard.split.Goals as goal

pub split_seat-requires : goal.split_seat-requires
split_seat-requires g c = (
  c.requires.own,
  first_word (turns_in c.args.self.now.table.shared.table_id.slots) c.args.self.now.table.shared.table_id.words c.args.self.now.spaced c.args.self.now.few.0,
  splits (start_in g.H.ShowsPart.shown c.args.self.now.table.shared.key) g.H.ShowsPart.shown c.args.pass.now.id c.args.pass.now.me.0 c.requires.ready.0,
)
