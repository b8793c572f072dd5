-- The edges under a label are those of the map's entry.
use Rattle.std.proofs.Common.{◌∙◌, [], List, sym, ap, unwrap_or}
use Rattle.std.specs.Prelude.{is_some}
use Rattle.graph_model.specs.declared.pairs.Pair.{Pair}
use Rattle.graph_model.specs.Graph.{pair_to}
use Rattle.graph_model.proofs.EntryLists.{pairs_in-lists_of}
use Rattle.graph_model.proofs.vertex_entry.VertexEntry.has_edge.Goals as goal

pub returns-in-Some : goal.returns-in-Some
returns-in-Some c =
    let none : List Pair = [] in
    rw (← c.self.view_is) (c.has.ensures ∙ ap (λ pairs. is_some (pair_to c.args.d pairs)) (ap (λ o. unwrap_or o none) c.in-Some.ensures.value ∙ sym (pairs_in-lists_of c.args.l c.self.inside.lists.entries)))

pub returns-in-None : goal.returns-in-None
returns-in-None c =
    let none : List Pair = [] in
    rw (← c.self.view_is) (ap (λ pairs. is_some (pair_to c.args.d pairs)) (ap (λ o. unwrap_or o none) c.in-None.ensures.value ∙ sym (pairs_in-lists_of c.args.l c.self.inside.lists.entries)))
