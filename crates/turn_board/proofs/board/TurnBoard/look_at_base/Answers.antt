use Rattle.std.proofs.Common.{◌∙◌}
use Rattle.turn_board.proofs.Taking.{first_word, looks}
use Rattle.turn_board.specs.Spread.{turns_in}
use Rattle.turn_board.specs.Starts.{start_in}
use Rattle.turn_board.proofs.board.TurnBoard.look_at_base.Goals as goal

pub load-requires : goal.load-requires
load-requires g c =
    let b = c.args.self.now in
    let id = b.table.shared.table_id in (
      c.requires.own,
      first_word (turns_in id.slots) id.words b.spaced b.few.0,
      looks (start_in g.H.ShowsPart.shown b.table.shared.key) g.H.ShowsPart.shown id.slots c.args.pass.now.id g.N.MadeFor.base c.args.pass.now.me c.requires.made_for c.requires.ready.0,
    )

pub returns-clause-base : goal.returns-clause-base
returns-clause-base g c = c.load.ensures.2.1 ∙ c.requires.made_for
