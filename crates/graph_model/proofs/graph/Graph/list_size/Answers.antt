-- The vertex is that of the map's entry.
use Rattle.std.proofs.Common.{◌∙◌, sym, ap}
use Rattle.std.specs.Option.{option_map}
use Rattle.graph_model.specs.Sizes.{size_of_list}
use Rattle.graph_model.specs.MapEntries.{vertex_of_entry}
use Rattle.graph_model.proofs.GraphEntries.{vertex_at-vertices_of}
use Rattle.graph_model.proofs.graph.Graph.list_size.Goals as goal

pub returns-in-Some-clause-size : goal.returns-in-Some-clause-size
returns-in-Some-clause-size c =
    let here = vertex_at-vertices_of c.args.v c.self.inside.vertices.entries ∙ ap (option_map (λ x. vertex_of_entry (c.args.v, x))) (sym c.in-Some.ensures.value) in
    rw (← c.self.view_is) (c.list_size.ensures ∙ ap (λ o. size_of_list o c.args.l) (sym here))

pub returns-in-None-clause-size : goal.returns-in-None-clause-size
returns-in-None-clause-size c =
    let none = vertex_at-vertices_of c.args.v c.self.inside.vertices.entries ∙ ap (option_map (λ x. vertex_of_entry (c.args.v, x))) (sym c.in-None.ensures.value) in
    rw (← c.self.view_is) (ap (λ o. size_of_list o c.args.l) (sym none))
