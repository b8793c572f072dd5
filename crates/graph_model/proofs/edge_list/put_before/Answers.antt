-- The edge goes to the front, where none to its destination stands behind it, or before all that was brought there.
use Rattle.std.proofs.Common.{◌∙◌, ◌++◌, ap}
use Rattle.std.specs.Arc.{arc_value}
use Rattle.graph_model.proofs.Shared.{put-front, told-has, on_ok}
use Rattle.graph_model.proofs.edge_list.put_before.Goals as goal

pub returns-then-not-has-clause-set : goal.returns-then-not-has-clause-set
returns-then-not-has-clause-set c =
    let shared = arc_value c.args.shared.now in
    let none = told-has c.args.pair.d c.has.result c.deref.result.now shared c.has.ensures c.deref.ensures ∙ c.if-not-has.true in
    on_ok c.put.result (λ set. ap (λ f. f ++ shared) set ∙ put-front c.args.pair c.args.front.now shared none) c.put.ensures.set
