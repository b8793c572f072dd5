-- The vertex is that of the map's entry.
use Rattle.std.proofs.Common.{◌∙◌, sym, ap}
use Rattle.std.specs.Option.{option_map}
use Rattle.graph_model.specs.Graph.{has_edge}
use Rattle.graph_model.specs.MapEntries.{vertex_of_entry}
use Rattle.graph_model.proofs.GraphEntries.{vertex_at-vertices_of}
use Rattle.graph_model.proofs.graph.Graph.has_edge.Goals as goal

pub returns-in-Some : goal.returns-in-Some
returns-in-Some c =
    let here = vertex_at-vertices_of c.args.v c.self.inside.vertices.entries ∙ ap (option_map (λ x. vertex_of_entry (c.args.v, x))) (sym c.in-Some.ensures.value) in
    rw (← c.self.view_is) (c.has_edge.ensures ∙ ap (λ o. has_edge o c.args.l c.args.d) (sym here))

pub returns-in-None : goal.returns-in-None
returns-in-None c =
    let none = vertex_at-vertices_of c.args.v c.self.inside.vertices.entries ∙ ap (option_map (λ x. vertex_of_entry (c.args.v, x))) (sym c.in-None.ensures.value) in
    rw (← c.self.view_is) (ap (λ o. has_edge o c.args.l c.args.d) (sym none))
