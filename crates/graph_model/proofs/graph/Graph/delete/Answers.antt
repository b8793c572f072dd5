-- The entry of the vertex is written where it stands.
use Rattle.std.proofs.Common.{◌∙◌, sym, ap}
use Rattle.graph_model.specs.declared.change.Change.TheVariants.{Del}
use Rattle.graph_model.specs.Whole.{is_graph}
use Rattle.graph_model.specs.MapEntries.{vertices_of}
use Rattle.graph_model.proofs.Wholes.{is_graph-apply}
use Rattle.graph_model.proofs.GraphEntries.{vertices-del, here-some, here-none, applies-ok, applies-unfit, applies-no_memory, vertices-same}
use Rattle.graph_model.proofs.graph.Graph.delete.Goals as goal

pub returns-in_default : goal.returns-in_default
returns-in_default c =
    let es = c.self.inside.vertices.entries in
    rw (← c.self.view_is) (applies-unfit (Del c.args.v c.args.l c.args.d) (vertices_of es) (vertices_of c.get_mut.follows.lender-at-none.entries)
    (here-none es c.args.v (sym c.in_default.ensures.value)) (ap (λ m. vertices_of m.entries) c.get_mut.follows.holds-at-none))

pub invariant_of-self-2 : goal.invariant_of-self-2
invariant_of-self-2 c =
    let es = c.self.inside.vertices.entries in
    let new = (c.get_mut.follows.lender c.delete.new.self).entries in
    ap is_graph (vertices-del es new c.args.v c.args.l c.args.d c.in-Some.entry.now c.delete.new.self c.self.invariant (sym c.in-Some.ensures.value) (c.get_mut.follows.holds c.delete.new.self).0 c.in_ok-delete.ensures.taken)
    ∙ is_graph-apply (Del c.args.v c.args.l c.args.d) (vertices_of es) c.self.invariant

pub returns : goal.returns
returns c =
    let es = c.self.inside.vertices.entries in
    let new = (c.get_mut.follows.lender c.delete.new.self).entries in
    rw (← c.self.view_is) (applies-ok (Del c.args.v c.args.l c.args.d) (vertices_of es) (vertices_of new)
    (vertices-del es new c.args.v c.args.l c.args.d c.in-Some.entry.now c.delete.new.self c.self.invariant (sym c.in-Some.ensures.value) (c.get_mut.follows.holds c.delete.new.self).0 c.in_ok-delete.ensures.taken)
    (here-some es c.args.v c.in-Some.entry.now (sym c.in-Some.ensures.value)))

pub invariant_of-self-in_err-delete : goal.invariant_of-self-in_err-delete
invariant_of-self-in_err-delete c =
    let es = c.self.inside.vertices.entries in
    let new = (c.get_mut.follows.lender c.delete.new.self).entries in
    ap is_graph (vertices-same es new c.args.v c.in-Some.entry.now c.delete.new.self (sym c.in-Some.ensures.value) (c.get_mut.follows.holds c.delete.new.self).0 c.in_err-delete.ensures.unchanged) ∙ c.self.invariant

pub returns-in_err-delete : goal.returns-in_err-delete
returns-in_err-delete c =
    let es = c.self.inside.vertices.entries in
    let new = (c.get_mut.follows.lender c.delete.new.self).entries in
    rw (← c.self.view_is) (applies-no_memory (Del c.args.v c.args.l c.args.d) (vertices_of es) (vertices_of new) c.from_residual.result c.from_residual.ensures.1
    (vertices-same es new c.args.v c.in-Some.entry.now c.delete.new.self (sym c.in-Some.ensures.value) (c.get_mut.follows.holds c.delete.new.self).0 c.in_err-delete.ensures.unchanged))
