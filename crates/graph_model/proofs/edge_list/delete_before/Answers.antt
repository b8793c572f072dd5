-- The edge stands behind the front, or else nowhere there.
use Rattle.std.proofs.Common.{◌∙◌, ◌++◌, ap}
use Rattle.std.specs.Result.{is_ok}
use Rattle.std.specs.Arc.{arc_value}
use Rattle.graph_model.specs.Graph.{without_pair}
use Rattle.graph_model.proofs.Shared.{taken-front, taken-behind, told-has, either}
use Rattle.graph_model.proofs.edge_list.delete_before.Goals as goal

pub returns-in_ok-make_mut-clause-taken : goal.returns-in_ok-make_mut-clause-taken
returns-in_ok-make_mut-clause-taken c =
    let shared = arc_value c.args.shared.now in
    let own = either _ _ c.in_ok-make_mut.ensures.value in
    ap (λ r. c.args.front.now ++ r) (c.make_mut.follows.holds c.delete.new.self (ap is_ok c.in_ok-make_mut.was) ∙ c.delete.ensures ∙ ap (without_pair c.args.d) own)
    ∙ taken-behind c.args.d c.args.front.now shared c.requires (told-has c.args.d c.has.result c.deref.result.now shared c.has.ensures c.deref.ensures ∙ c.if-has.true)

pub returns-else-has-clause-taken : goal.returns-else-has-clause-taken
returns-else-has-clause-taken c =
    let shared = arc_value c.args.shared.now in
    ap (λ r. r ++ shared) c.delete-else-has.ensures
    ∙ taken-front c.args.d c.args.front.now shared (told-has c.args.d c.has.result c.deref.result.now shared c.has.ensures c.deref.ensures ∙ c.if-has.false)
