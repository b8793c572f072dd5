use Rattle.std.proofs.Common.{arith}
use Rattle.block_index.proofs.PropsLemmas.{props-oldest}
use Rattle.block_index.proofs.notes.Notes.take_back.Goals as goal

pub returns-clause-noted : goal.returns-clause-noted
returns-clause-noted c = λ start xs held long noted. record {
  places = c.take_back.ensures.indexed start xs held long noted.places;
  props = props-oldest c.args.self.now.props.items c.truncate.new.self.items c.args.from xs noted.props (omega (arith, long, c.requires.from)) c.truncate.ensures.items;
}
