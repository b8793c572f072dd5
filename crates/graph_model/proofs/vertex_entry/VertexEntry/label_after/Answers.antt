-- The labels are the keys of the map.
use Rattle.std.proofs.Common.{◌∙◌, ◌+◌, sym, ap}
use Rattle.graph_model.specs.Walking.{first_from}
use Rattle.graph_model.proofs.Walking.{above-none, above-some, labels-lists_of}
use Rattle.graph_model.proofs.vertex_entry.VertexEntry.label_after.Goals as goal

pub returns-in_err-label : goal.returns-in_err-label
returns-in_err-label c =
    let es = c.self.inside.lists.entries in
    let none = above-none c.args.l es c.range.result (c.range.ensures.between tt) (c.in_err-label.ensures.steps.0) in
    rw (← c.self.view_is) (c.from_residual.ensures ∙ none ∙ ap (first_from (c.args.l + 1)) (sym (labels-lists_of es)))

pub returns : goal.returns
returns c =
    let es = c.self.inside.lists.entries in
    let found = above-some c.args.l c.in_ok-label.label.now c.in_ok-label.field-0-1.now es c.range.result c.next.new.self (c.range.ensures.between tt) c.in_ok-label.ensures.steps in
    rw (← c.self.view_is) (found ∙ ap (first_from (c.args.l + 1)) (sym (labels-lists_of es)))
