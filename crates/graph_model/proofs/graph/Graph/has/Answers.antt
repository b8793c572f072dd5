-- A vertex is there where the map has its key.
use Rattle.std.proofs.Common.{◌∙◌, sym}
use Rattle.graph_model.proofs.GraphEntries.{has-vertices_of}
use Rattle.graph_model.proofs.graph.Graph.has.Goals as goal

pub returns : goal.returns
returns c = rw (← c.self.view_is) (c.contains_key.ensures ∙ sym (has-vertices_of c.args.v c.self.inside.vertices.entries))
