-- The map's entry of the vertex becomes that of the other graph.
use Rattle.std.proofs.Common.{◌∙◌, sym, ap, Some}
use Rattle.graph_model.specs.Whole.{is_graph}
use Rattle.graph_model.specs.declared.change.Change.TheVariants.{Drop}
use Rattle.graph_model.specs.MapEntries.{vertices_of}
use Rattle.graph_model.proofs.Wholes.{is_graph-apply}
use Rattle.graph_model.proofs.GraphEntries.{vertices-drop, is_graph-insert, adopted-some, adopted-none}
use Rattle.graph_model.proofs.graph.Graph.adopt.Goals as goal

pub invariant_of-self : goal.invariant_of-self
invariant_of-self c =
    let es = c.self.inside.vertices.entries in
    ap is_graph (vertices-drop es c.remove-old.new.self.entries c.args.v c.self.invariant c.remove-old.ensures.entries) ∙ is_graph-apply (Drop c.args.v) (vertices_of es) c.self.invariant

pub returns-in_default-clause-adopted : goal.returns-in_default-clause-adopted
returns-in_default-clause-adopted c w =
    rw (← c.self.view_is, ← c.other.view_is) (adopted-none c.self.inside.vertices.entries c.other.inside.vertices.entries c.remove-old.new.self.entries c.args.v w c.self.invariant (sym c.in_default.ensures.value) c.remove-old.ensures.entries)

pub invariant_of-self-2 : goal.invariant_of-self-2
invariant_of-self-2 c =
    is_graph-insert c.self.inside.vertices.entries c.other.inside.vertices.entries c.insert.new.self.entries c.args.v c.in_ok-entry.entry c.self.invariant c.other.invariant
    (sym c.in-Some.ensures.value ∙ ap Some (sym c.in_ok-entry.ensures.cases)) c.in_ok-insert.ensures.entries

pub returns-clause-adopted : goal.returns-clause-adopted
returns-clause-adopted c w =
    rw (← c.self.view_is, ← c.other.view_is) (adopted-some c.self.inside.vertices.entries c.other.inside.vertices.entries c.insert.new.self.entries c.args.v w c.in_ok-entry.entry
    (sym c.in-Some.ensures.value ∙ ap Some (sym c.in_ok-entry.ensures.cases)) c.in_ok-insert.ensures.entries)
