-- The vertex is that of the map's entry.
use Rattle.std.proofs.Common.{◌∙◌, Some, None, sym, ap}
use Rattle.graph_model.specs.Walking.{first_from, labels_of}
use Rattle.graph_model.proofs.Walking.{here}
use Rattle.graph_model.proofs.graph.Graph.next_label.Goals as goal

pub returns-in_err-entry : goal.returns-in_err-entry
returns-in_err-entry c =
    rw (← c.self.view_is) (c.from_residual.ensures ∙ sym (ap (λ o. first_from c.args.l (labels_of o)) (here c.args.v c.self.inside.vertices.entries None c.in_err-entry.ensures.value)))

pub returns : goal.returns
returns c =
    rw (← c.self.view_is) (c.next_label.ensures ∙ sym (ap (λ o. first_from c.args.l (labels_of o)) (here c.args.v c.self.inside.vertices.entries (Some c.in_ok-entry.entry.now) c.in_ok-entry.ensures.value)))
