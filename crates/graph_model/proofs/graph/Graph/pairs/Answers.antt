-- The vertex is that of the map's entry.
use Rattle.std.proofs.Common.{◌∙◌, Some, None, sym, ap}
use Rattle.std.specs.Option.{option_copied}
use Rattle.graph_model.specs.Walking.{pairs_of}
use Rattle.graph_model.proofs.Walking.{here}
use Rattle.graph_model.proofs.graph.Graph.pairs.Goals as goal

pub returns-in_err-entry : goal.returns-in_err-entry
returns-in_err-entry c =
    rw (← c.self.view_is) (ap option_copied c.from_residual.ensures ∙ sym (ap (λ o. pairs_of o c.args.l) (here c.args.v c.self.inside.vertices.entries None c.in_err-entry.ensures.value)))

pub returns : goal.returns
returns c =
    rw (← c.self.view_is) (c.pairs.ensures ∙ sym (ap (λ o. pairs_of o c.args.l) (here c.args.v c.self.inside.vertices.entries (Some c.in_ok-entry.entry.now) c.in_ok-entry.ensures.value)))
