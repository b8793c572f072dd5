-- The edges under a label are those of the map's entry.
use Rattle.std.proofs.Common.{◌∙◌, [], List, sym, ap, unwrap_or}
use Rattle.graph_model.specs.declared.pairs.Pair.{Pair}
use Rattle.graph_model.specs.Sizes.{list_size}
use Rattle.graph_model.proofs.EntryLists.{pairs_in-lists_of}
use Rattle.graph_model.proofs.vertex_entry.VertexEntry.list_size.Goals as goal

pub returns-in-Some : goal.returns-in-Some
returns-in-Some c =
    let none : List Pair = [] in
    rw (← c.self.view_is) (c.size.ensures ∙ ap list_size (ap (λ o. unwrap_or o none) c.in-Some.ensures.value ∙ sym (pairs_in-lists_of c.args.l c.self.inside.lists.entries)))

pub returns-in-None : goal.returns-in-None
returns-in-None c =
    let none : List Pair = [] in
    rw (← c.self.view_is) (ap list_size (ap (λ o. unwrap_or o none) c.in-None.ensures.value ∙ sym (pairs_in-lists_of c.args.l c.self.inside.lists.entries)))
