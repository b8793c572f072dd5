-- The edges under a label are those of the map's entry.
use Rattle.std.proofs.Common.{◌∙◌, [], List, sym, ap, unwrap_or}
use Rattle.graph_model.specs.declared.pairs.Pair.{Pair}
use Rattle.graph_model.specs.declared.query.Answer.TheVariants.{Edges}
use Rattle.graph_model.proofs.EntryLists.{pairs_in-lists_of}
use Rattle.graph_model.proofs.vertex_entry.VertexEntry.scan.Goals as goal

pub returns-in_default : goal.returns-in_default
returns-in_default c =
    let none : List Pair = [] in
    rw (← c.self.view_is) (ap Edges (c.new.ensures ∙ ap (λ o. unwrap_or o none) c.in_default.ensures.value ∙ sym (pairs_in-lists_of c.args.l c.self.inside.lists.entries)))

pub returns : goal.returns
returns c =
    let none : List Pair = [] in
    rw (← c.self.view_is) (ap Edges (c.in_ok-to_pairs.ensures ∙ ap (λ o. unwrap_or o none) c.in-Some.ensures.value ∙ sym (pairs_in-lists_of c.args.l c.self.inside.lists.entries)))
