-- The entry of the vertex is written where it stands.
use Rattle.std.proofs.Common.{◌∙◌, sym, ap}
use Rattle.graph_model.specs.declared.change.Change.TheVariants.{Set}
use Rattle.graph_model.specs.Whole.{is_graph}
use Rattle.graph_model.specs.MapEntries.{vertices_of}
use Rattle.graph_model.proofs.Wholes.{is_graph-apply}
use Rattle.graph_model.proofs.GraphEntries.{vertices-set, here-some, here-none, applies-ok, applies-unfit}
use Rattle.graph_model.proofs.graph.Graph.set.Goals as goal

pub returns-in_default : goal.returns-in_default
returns-in_default c =
    let es = c.self.inside.vertices.entries in
    rw (← c.self.view_is) (applies-unfit (Set c.args.v c.args.p.now) (vertices_of es) (vertices_of c.get_mut.follows.lender-at-none.entries)
    (here-none es c.args.v (sym c.in_default.ensures.value)) (ap (λ m. vertices_of m.entries) c.get_mut.follows.holds-at-none))

pub invariant_of-self-2 : goal.invariant_of-self-2
invariant_of-self-2 c =
    let es = c.self.inside.vertices.entries in
    let new = (c.get_mut.follows.lender c.set.new.self).entries in
    ap is_graph (vertices-set es new c.args.v c.args.p.now c.in-Some.entry.now c.set.new.self c.self.invariant (sym c.in-Some.ensures.value) (c.get_mut.follows.holds c.set.new.self).0 (c.set.ensures ∙ ap (λ p. record c.in-Some.entry.now { payload = p }) c.in_ok-payload.ensures))
    ∙ is_graph-apply (Set c.args.v c.args.p.now) (vertices_of es) c.self.invariant

pub returns : goal.returns
returns c =
    let es = c.self.inside.vertices.entries in
    let new = (c.get_mut.follows.lender c.set.new.self).entries in
    rw (← c.self.view_is) (applies-ok (Set c.args.v c.args.p.now) (vertices_of es) (vertices_of new)
    (vertices-set es new c.args.v c.args.p.now c.in-Some.entry.now c.set.new.self c.self.invariant (sym c.in-Some.ensures.value) (c.get_mut.follows.holds c.set.new.self).0 (c.set.ensures ∙ ap (λ p. record c.in-Some.entry.now { payload = p }) c.in_ok-payload.ensures))
    (here-some es c.args.v c.in-Some.entry.now (sym c.in-Some.ensures.value)))
