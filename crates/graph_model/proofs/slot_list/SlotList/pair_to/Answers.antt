-- The edge stands in the slot at its place.
use Rattle.std.proofs.Common.{◌≡◌, ◌∙◌, ◌-◌, length, sym, ap, arith}
use Rattle.std.specs.Prelude.{slice_index_or}
use Rattle.std.specs.Option.{option_copied}
use Rattle.graph_model.specs.Gaps.{edges_in}
use Rattle.graph_model.proofs.EdgeLists.{pair_to-absent}
use Rattle.graph_model.proofs.Gaps.{missing, place_of-within, slot_at-index, slot_at-place}
use Rattle.graph_model.proofs.slot_list.SlotList.pair_to.Goals as goal

pub returns-in_err-place : goal.returns-in_err-place
returns-in_err-place c =
    let slots = c.self.inside.slots.items in
    let none = missing c.args.d slots c.self.inside.places c.self.invariant.told (sym c.in_err-place.ensures.value) in
    rw (← c.self.view_is) (ap option_copied c.from_residual.ensures ∙ sym (pair_to-absent c.args.d (edges_in slots) none))

pub overflow_sub-len-2 : goal.overflow_sub-len-2
overflow_sub-len-2 c =
    let slots = c.self.inside.slots.items in
    let within = place_of-within c.args.d c.in_ok-place.place.now slots (sym (c.self.invariant.told c.args.d) ∙ sym c.in_ok-place.ensures.value) in
    omega (arith, within, c.len.ensures, c.self.inside.slots.ok.0)

pub returns : goal.returns
returns c =
    let slots = c.self.inside.slots.items in
    let n = c.in_ok-place.place.now in
    let at = sym (c.self.invariant.told c.args.d) ∙ sym c.in_ok-place.ensures.value in
    let long : c.len.result ≡ length slots = c.len.ensures ∙ c.self.inside.slots.ok.0 in
    let other = c.index.result.now in
    rw (← c.self.view_is) (c.as_ref.ensures.value ∙ c.index.ensures ∙ ap (λ m. slice_index_or slots (m - 1 - n) other) long
    ∙ sym (slot_at-index n slots other (place_of-within c.args.d n slots at)) ∙ slot_at-place c.args.d n slots at)
