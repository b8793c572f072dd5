use Rattle.std.proofs.Common.{◌∙◌, ap}
use Rattle.core_states.specs.Numbers.{without_number}
use Rattle.core_states.proofs.ListedLemmas.{filter_number}
use Rattle.core_states.proofs.listed.Listed+u64.take_number.Goals as goal

pub returns : goal.returns
returns c = c.leave_numbers.ensures ∙ filter_number c.args.v c.self.inside.items.items ∙ ap (without_number c.args.v) c.self.view_is
