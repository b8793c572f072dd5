-- The entry of the vertex is written where it stands.
use Rattle.std.proofs.Common.{◌∙◌, sym, ap}
use Rattle.graph_model.specs.declared.change.Change.TheVariants.{Put}
use Rattle.graph_model.specs.Whole.{is_graph}
use Rattle.graph_model.specs.MapEntries.{vertices_of}
use Rattle.graph_model.proofs.Wholes.{is_graph-apply}
use Rattle.graph_model.specs.Graph.{lists_after_put}
use Rattle.graph_model.proofs.GraphEntries.{vertices-put, vertices-same, here-some, here-none, applies-ok, applies-unfit, applies-no_memory}
use Rattle.graph_model.proofs.graph.Graph.put.Goals as goal

pub returns-in_default : goal.returns-in_default
returns-in_default c =
    let es = c.self.inside.vertices.entries in
    rw (← c.self.view_is) (applies-unfit (Put c.args.v c.args.l c.args.d c.args.p.now) (vertices_of es) (vertices_of c.get_mut.follows.lender-at-none.entries)
    (here-none es c.args.v (sym c.in_default.ensures.value)) (ap (λ m. vertices_of m.entries) c.get_mut.follows.holds-at-none))

pub invariant_of-self-in_err-put : goal.invariant_of-self-in_err-put
invariant_of-self-in_err-put c =
    let es = c.self.inside.vertices.entries in
    let new = (c.get_mut.follows.lender c.put.new.self).entries in
    ap is_graph (vertices-same es new c.args.v c.in-Some.entry.now c.put.new.self (sym c.in-Some.ensures.value) (c.get_mut.follows.holds c.put.new.self).0 c.in_err-put.ensures.unchanged) ∙ c.self.invariant

pub returns-in_err-put : goal.returns-in_err-put
returns-in_err-put c =
    let es = c.self.inside.vertices.entries in
    let new = (c.get_mut.follows.lender c.put.new.self).entries in
    rw (← c.self.view_is) (applies-no_memory (Put c.args.v c.args.l c.args.d c.args.p.now) (vertices_of es) (vertices_of new) c.from_residual-in_err-put.result c.from_residual-in_err-put.ensures.1
    (vertices-same es new c.args.v c.in-Some.entry.now c.put.new.self (sym c.in-Some.ensures.value) (c.get_mut.follows.holds c.put.new.self).0 c.in_err-put.ensures.unchanged))

pub invariant_of-self-2 : goal.invariant_of-self-2
invariant_of-self-2 c =
    let es = c.self.inside.vertices.entries in
    let new = (c.get_mut.follows.lender c.put.new.self).entries in
    ap is_graph (vertices-put es new c.args.v c.args.l c.args.d c.args.p.now c.in-Some.entry.now c.put.new.self c.self.invariant (sym c.in-Some.ensures.value) (c.get_mut.follows.holds c.put.new.self).0 (c.in_ok-put.ensures.set ∙ ap (λ p. record c.in-Some.entry.now { lists = lists_after_put c.args.l c.args.d p c.in-Some.entry.now.lists }) c.in_ok-copy.ensures))
    ∙ is_graph-apply (Put c.args.v c.args.l c.args.d c.args.p.now) (vertices_of es) c.self.invariant

pub returns : goal.returns
returns c =
    let es = c.self.inside.vertices.entries in
    let new = (c.get_mut.follows.lender c.put.new.self).entries in
    rw (← c.self.view_is) (applies-ok (Put c.args.v c.args.l c.args.d c.args.p.now) (vertices_of es) (vertices_of new)
    (vertices-put es new c.args.v c.args.l c.args.d c.args.p.now c.in-Some.entry.now c.put.new.self c.self.invariant (sym c.in-Some.ensures.value) (c.get_mut.follows.holds c.put.new.self).0 (c.in_ok-put.ensures.set ∙ ap (λ p. record c.in-Some.entry.now { lists = lists_after_put c.args.l c.args.d p c.in-Some.entry.now.lists }) c.in_ok-copy.ensures))
    (here-some es c.args.v c.in-Some.entry.now (sym c.in-Some.ensures.value)))
