-- An edge stands in the front or behind it.
use Rattle.std.proofs.Common.{◌∙◌, sym, ap}
use Rattle.std.specs.Option.{option_copied}
use Rattle.graph_model.specs.Graph.{pair_to}
use Rattle.graph_model.specs.Shared.{shared_edges}
use Rattle.graph_model.proofs.Shared.{pair_to-front, pair_to-behind}
use Rattle.graph_model.proofs.edge_list.EdgeList.pair_to.Goals as goal

pub returns-in-Some : goal.returns-in-Some
returns-in-Some c =
    rw (← c.self.view_is) (sym (pair_to-front c.args.d c.in-Some.pair.now c.self.inside.front (shared_edges c.self.inside.shared) (sym c.in-Some.ensures)))

pub returns-in-Some-shared : goal.returns-in-Some-shared
returns-in-Some-shared c =
    rw (← c.self.view_is) (c.pair_to-in-Some-shared.ensures ∙ ap (pair_to c.args.d) (c.deref.ensures ∙ ap shared_edges (sym c.in-Some-shared.is))
    ∙ sym (pair_to-behind c.args.d c.self.inside.front (shared_edges c.self.inside.shared) (sym c.pair_to.ensures ∙ ap option_copied c.in_default.is)))
