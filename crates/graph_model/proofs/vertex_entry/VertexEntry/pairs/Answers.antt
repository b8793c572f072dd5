-- The edges under a label are those of the map's entry, which has some.
use Rattle.graph_model.proofs.Walking.{pairs-entry}
use Rattle.graph_model.proofs.vertex_entry.VertexEntry.pairs.Goals as goal

pub returns : goal.returns
returns c = rw (← c.self.view_is) (pairs-entry c.args.l c.self.inside.lists.entries _ c.self.invariant c.get.ensures.value)
