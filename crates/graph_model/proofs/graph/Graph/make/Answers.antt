-- The map gains the entry of the new vertex.
use Rattle.std.proofs.Common.{◌∙◌, ap, refl, true, false, []}
use Rattle.graph_model.specs.declared.change.Change.TheVariants.{New}
use Rattle.graph_model.specs.Whole.{is_graph}
use Rattle.graph_model.specs.MapEntries.{vertices_of}
use Rattle.graph_model.proofs.Wholes.{is_graph-apply}
use Rattle.graph_model.proofs.GraphEntries.{vertices-new, new-fits, applies-ok, applies-unfit}
use Rattle.graph_model.proofs.graph.Graph.make.Goals as goal

pub returns-then-contains_key : goal.returns-then-contains_key
returns-then-contains_key c =
    let es = c.self.inside.vertices.entries in
    rw (← c.self.view_is) (applies-unfit (New c.args.v c.args.p.now) (vertices_of es) (vertices_of es) (new-fits es c.args.v c.args.p.now true c.if-contains_key.ensures) refl)

pub invariant_of-self : goal.invariant_of-self
invariant_of-self c =
    let es = c.self.inside.vertices.entries in
    ap is_graph (vertices-new es c.insert.new.self.entries c.args.v c.args.p.now c.new-entry.result c.in-Ok.ensures.entries (c.new-entry.ensures ∙ ap (λ p. record { payload = p; lists = [] }) c.in_ok-copy.ensures))
    ∙ is_graph-apply (New c.args.v c.args.p.now) (vertices_of es) c.self.invariant

pub returns-in-Ok : goal.returns-in-Ok
returns-in-Ok c =
    let es = c.self.inside.vertices.entries in
    rw (← c.self.view_is) (applies-ok (New c.args.v c.args.p.now) (vertices_of es) (vertices_of c.insert.new.self.entries)
    (vertices-new es c.insert.new.self.entries c.args.v c.args.p.now c.new-entry.result c.in-Ok.ensures.entries (c.new-entry.ensures ∙ ap (λ p. record { payload = p; lists = [] }) c.in_ok-copy.ensures))
    (new-fits es c.args.v c.args.p.now false c.if-contains_key.ensures))
