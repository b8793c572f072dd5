use Rattle.std.proofs.Common.{ℕ, ◌∷◌, subst}
use Rattle.place_index.specs.Chains.{IsIndexOf}
use Rattle.block_index.specs.Noted.{destinations}
use Rattle.block_index.proofs.PropsLemmas.{props-pushed}
use Rattle.block_index.proofs.notes.Notes.push.Goals as goal

pub returns-clause-pushed : goal.returns-clause-pushed
returns-clause-pushed c = λ xs x noted leads total. record {
  places = subst (λ (d : ℕ). IsIndexOf c.push.new.self (d ∷ destinations xs)) leads (c.push.ensures.pushed (destinations xs) noted.places);
  props = props-pushed c.args.self.now.props.items c.push_reserved.new.self.items c.args.props x xs noted.props total c.push_reserved.ensures.items;
}
