-- The edges under a label are those of the map's entry.
use Rattle.std.proofs.Common.{◌∙◌, [], List, sym, ap, unwrap_or}
use Rattle.graph_model.specs.declared.pairs.Pair.{Pair}
use Rattle.graph_model.specs.declared.query.Answer.TheVariants.{Value}
use Rattle.graph_model.specs.Graph.{edge_answer, pair_to}
use Rattle.graph_model.proofs.EntryLists.{pairs_in-lists_of}
use Rattle.graph_model.proofs.vertex_entry.VertexEntry.edge.Goals as goal

pub returns-in_default : goal.returns-in_default
returns-in_default c =
    let none : List Pair = [] in
    rw (← c.self.view_is) (ap (λ pairs. edge_answer (pair_to c.args.d pairs)) (ap (λ o. unwrap_or o none) c.in_default.ensures.value ∙ sym (pairs_in-lists_of c.args.l c.self.inside.lists.entries)))

pub returns-in_default-pair_to : goal.returns-in_default-pair_to
returns-in_default-pair_to c =
    let none : List Pair = [] in
    rw (← c.self.view_is) (ap edge_answer c.in_default-pair_to.ensures
    ∙ ap (λ pairs. edge_answer (pair_to c.args.d pairs)) (ap (λ o. unwrap_or o none) c.in-Some.ensures.value ∙ sym (pairs_in-lists_of c.args.l c.self.inside.lists.entries)))

pub returns : goal.returns
returns c =
    let none : List Pair = [] in
    rw (← c.self.view_is) (ap Value c.in_ok-copy.ensures ∙ ap edge_answer c.in-Some-pair_to.ensures
    ∙ ap (λ pairs. edge_answer (pair_to c.args.d pairs)) (ap (λ o. unwrap_or o none) c.in-Some.ensures.value ∙ sym (pairs_in-lists_of c.args.l c.self.inside.lists.entries)))
