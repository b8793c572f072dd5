use Rattle.std.proofs.Common.{◌∙◌, ap}
use Rattle.core_states.specs.Numbers.{without_active}
use Rattle.core_states.proofs.ListedLemmas.{filter_active}
use Rattle.core_states.proofs.listed.Listed+Active.take_transaction.Goals as goal

pub returns : goal.returns
returns c = c.leave_actives.ensures ∙ filter_active c.args.tid c.self.inside.items.items ∙ ap (without_active c.args.tid) c.self.view_is
