use Rattle.std.proofs.Common.{◌≡◌, ◌++◌, map}
use Rattle.graph_model.proofs.vertex_entry.VertexEntry.labels.Given as goal

abbrev pub invariant-loop-label : goal.invariant-loop-label
invariant-loop-label l = l.labels ++ l.label-iterator ≡ map (λ y. y.label) l.self.lists
