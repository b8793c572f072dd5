-- Edges take something.
use Rattle.std.proofs.Common.{◌∙◌, ap}
use Rattle.std.specs.Prelude.{◌==◌}
use Rattle.graph_model.proofs.Sizes.{list_size-none}
use Rattle.graph_model.proofs.edge_list.EdgeList.is_empty.Goals as goal

pub returns : goal.returns
returns c = ap (λ n. n == 0) c.size.ensures ∙ list_size-none c.args.self.now
