-- One entry is the whole map.
use Rattle.std.proofs.Common.{◌∙◌, sym, ap}
use Rattle.std.specs.Option.{option_map}
use Rattle.graph_model.specs.Graph.{vertex_at}
use Rattle.graph_model.specs.Whole.{is_graph}
use Rattle.graph_model.specs.MapEntries.{vertex_of_entry}
use Rattle.graph_model.proofs.GraphEntries.{here-alone, is_graph-alone, vertices-alone, vertex_at-vertices_of}
use Rattle.graph_model.proofs.graph.Graph.alone.Goals as goal

pub returns-in_default : goal.returns-in_default
returns-in_default c =
    let v = c.args.v in
    rw (← c.self.view_is) (ap (vertex_at v) c.empty.ensures ∙ sym (vertex_at-vertices_of v c.self.inside.vertices.entries ∙ ap (option_map (λ x. vertex_of_entry (v, x))) (sym c.in_default.ensures.value)))

pub invariant_of-result : goal.invariant_of-result
invariant_of-result c =
    let v = c.args.v in
    ap is_graph (vertices-alone c.new-vertices.result.entries c.insert.new.self.entries v c.in_ok-clone.field-0 c.in-Some.entry.now c.in_ok-insert.ensures.entries c.new-vertices.ensures.empty c.in_ok-clone.ensures.cases)
    ∙ is_graph-alone c.self.inside.vertices.entries v c.in-Some.entry.now c.self.invariant (sym c.in-Some.ensures.value)

pub returns : goal.returns
returns c =
    let v = c.args.v in
    rw (← c.self.view_is) (ap (vertex_at v) (vertices-alone c.new-vertices.result.entries c.insert.new.self.entries v c.in_ok-clone.field-0 c.in-Some.entry.now c.in_ok-insert.ensures.entries c.new-vertices.ensures.empty c.in_ok-clone.ensures.cases)
    ∙ here-alone v c.in-Some.entry.now
    ∙ sym (vertex_at-vertices_of v c.self.inside.vertices.entries ∙ ap (option_map (λ x. vertex_of_entry (v, x))) (sym c.in-Some.ensures.value)))
