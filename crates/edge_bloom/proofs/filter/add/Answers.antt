use Rattle.edge_bloom.proofs.HoldsLemmas.{has_more}
use Rattle.edge_bloom.proofs.filter.add.Goals as goal

pub returns-clause-added : goal.returns-clause-added
returns-clause-added c = λ ds had. has_more c.args.filter.now c.set_places.new.filter c.args.d ds c.set_places.auto.filter c.set_places.ensures had
