-- The map has one entry for each edge.
use Rattle.std.proofs.Common.{◌∙◌, ap, is_some}
use Rattle.graph_model.specs.Gaps.{edges_in}
use Rattle.graph_model.proofs.Counts.{length-alike}
use Rattle.graph_model.proofs.Gaps.{is_some-place_of}
use Rattle.graph_model.proofs.slot_list.SlotList.len.Goals as goal

pub returns : goal.returns
returns c =
    let slots = c.self.inside.slots.items in
    rw (← c.self.view_is) (c.len.ensures.len ∙ length-alike c.self.inside.places.entries (edges_in slots) c.len.ensures.ordered c.self.invariant.differ
    (λ d. ap is_some (c.self.invariant.told d) ∙ is_some-place_of d slots))
