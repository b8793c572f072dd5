-- The entry of the vertex is taken out.
use Rattle.std.proofs.Common.{◌∙◌, sym, ap}
use Rattle.graph_model.specs.declared.change.Change.TheVariants.{Drop}
use Rattle.graph_model.specs.Whole.{is_graph}
use Rattle.graph_model.specs.MapEntries.{vertices_of}
use Rattle.graph_model.proofs.Wholes.{is_graph-apply}
use Rattle.graph_model.proofs.GraphEntries.{vertices-drop, here-some, here-none, applies-ok, applies-unfit}
use Rattle.graph_model.proofs.graph.Graph.remove.Goals as goal

pub returns-in_default : goal.returns-in_default
returns-in_default c =
    let es = c.self.inside.vertices.entries in
    rw (← c.self.view_is) (applies-unfit (Drop c.args.v) (vertices_of es) (vertices_of c.remove.new.self.entries)
    (here-none es c.args.v (sym c.in_default.ensures.value)) (ap vertices_of c.in_default.ensures.unchanged))

pub invariant_of-self : goal.invariant_of-self
invariant_of-self c = ap is_graph (ap vertices_of c.in_default.ensures.unchanged) ∙ c.self.invariant

pub invariant_of-self-2 : goal.invariant_of-self-2
invariant_of-self-2 c =
    let es = c.self.inside.vertices.entries in
    ap is_graph (vertices-drop es c.remove.new.self.entries c.args.v c.self.invariant c.in-Some.ensures.entries) ∙ is_graph-apply (Drop c.args.v) (vertices_of es) c.self.invariant

pub returns : goal.returns
returns c =
    let es = c.self.inside.vertices.entries in
    rw (← c.self.view_is) (applies-ok (Drop c.args.v) (vertices_of es) (vertices_of c.remove.new.self.entries)
    (vertices-drop es c.remove.new.self.entries c.args.v c.self.invariant c.in-Some.ensures.entries) (here-some es c.args.v c.in-Some.entry (sym c.in-Some.ensures.value)))
