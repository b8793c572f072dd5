use Rattle.std.proofs.Common.{◌∙◌}
use Rattle.edge_bloom.proofs.HoldsLemmas.{holds-among}
use Rattle.edge_bloom.proofs.filter.may_hold.Goals as goal

pub returns-clause-added : goal.returns-clause-added
returns-clause-added c = λ ds has among. c.are_set.ensures ∙ holds-among c.args.filter.now c.args.d ds has among
