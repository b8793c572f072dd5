-- The map has the destinations of the edges.
use Rattle.std.proofs.Common.{◌∙◌, is_some, sym, ap}
use Rattle.graph_model.proofs.EdgeLists.{is_some-pair_to}
use Rattle.graph_model.proofs.Gaps.{is_some-place_of}
use Rattle.graph_model.specs.Gaps.{edges_in}
use Rattle.graph_model.proofs.slot_list.SlotList.has.Goals as goal

pub returns : goal.returns
returns c =
    let slots = c.self.inside.slots.items in
    rw (← c.self.view_is) (c.contains_key.ensures ∙ ap is_some (c.self.invariant.told c.args.d) ∙ is_some-place_of c.args.d slots ∙ sym (is_some-pair_to c.args.d (edges_in slots)))
