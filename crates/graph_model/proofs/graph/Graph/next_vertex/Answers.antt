-- The numbers are the keys of the map.
use Rattle.std.proofs.Common.{◌∙◌, sym, ap}
use Rattle.graph_model.specs.Walking.{first_from}
use Rattle.graph_model.proofs.Walking.{first-none, first-some, numbers-vertices_of}
use Rattle.graph_model.proofs.graph.Graph.next_vertex.Goals as goal

pub returns-in_err-number-clause-next : goal.returns-in_err-number-clause-next
returns-in_err-number-clause-next c =
    let es = c.self.inside.vertices.entries in
    let none = first-none c.args.v es c.range.result (c.range.ensures.between tt) (c.in_err-number.ensures.steps.0) in
    rw (← c.self.view_is) (c.from_residual.ensures ∙ none ∙ ap (first_from c.args.v) (sym (numbers-vertices_of es)))

pub returns-clause-next : goal.returns-clause-next
returns-clause-next c =
    let es = c.self.inside.vertices.entries in
    let found = first-some c.args.v c.in_ok-number.number.now c.in_ok-number.field-0-1.now es c.range.result c.next.new.self (c.range.ensures.between tt) c.in_ok-number.ensures.steps in
    rw (← c.self.view_is) (found ∙ ap (first_from c.args.v) (sym (numbers-vertices_of es)))
