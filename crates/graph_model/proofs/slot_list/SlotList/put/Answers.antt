-- A new destination is set in front of the others; else what stood at its place is left out.
use Rattle.std.proofs.Common.{◌≡◌, ◌∙◌, ◌∷◌, ◌-◌, cond, length, Some, sym, ap, subst, arith}
use Rattle.std.specs.Ordering.{nat_cmp}
use Rattle.std.specs.BTreeMap.{is_at, get}
use Rattle.graph_model.specs.Sizes.{list_size}
use Rattle.graph_model.specs.Whole.{are_pairs}
use Rattle.graph_model.specs.Gaps.{edges_in, TellsPlaces, IsKept}
use Rattle.graph_model.proofs.EdgeLists.{without_pair-absent}
use Rattle.graph_model.proofs.Gaps.{there, missing, kept-room, kept-new, Replaces, replaces_in_room}
use Rattle.graph_model.proofs.slot_list.SlotList.put.Goals as goal

pub invariant_of-self-in_default-2 : goal.invariant_of-self-in_default-2
invariant_of-self-in_default-2 c =
    let slots = c.reserve.new.self.items in
    let kept = kept-room c.self.inside.slots.items slots c.self.inside.places c.self.inside.size c.in_ok-reserve.ensures.items c.self.invariant in
    let long : c.len.result ≡ length slots = c.len.ensures ∙ c.reserve.new.self.ok.0 in
    subst (λ s. IsKept s c.insert.new.self c.in-Some.size) (sym c.push_front_reserved.ensures.items)
    (kept-new c.args.pair slots c.self.inside.places c.insert.new.self c.self.inside.size c.in-Some.size kept (sym c.in_ok-place.ensures.old ∙ c.in_default-2.is)
    (λ d. c.in_ok-place.ensures.updates.0 d ∙ ap (λ n. cond (is_at (nat_cmp c.args.pair.d) d) (Some n) (get nat_cmp c.self.inside.places d)) long)
    (omega (arith, c.size.ensures, c.in-Some.ensures.1)))

pub returns-in_default-2-clause-set : goal.returns-in_default-2-clause-set
returns-in_default-2-clause-set c =
    let slots = c.self.inside.slots.items in
    let gone = without_pair-absent c.args.pair.d (edges_in slots) (missing c.args.pair.d slots c.self.inside.places c.self.invariant.told (sym c.in_ok-place.ensures.old ∙ c.in_default-2.is)) in
    rw (← c.self.view_is) (ap edges_in (c.push_front_reserved.ensures.items ∙ ap (λ s. Some c.args.pair ∷ s) c.in_ok-reserve.ensures.items) ∙ ap (λ r. c.args.pair ∷ r) (sym gone))

pub take_out-requires-clause-there : goal.take_out-requires-clause-there
take_out-requires-clause-there c =
    there c.args.pair.d c.in-Some-2.place c.reserve.new.self.items c.self.inside.places
    (subst (TellsPlaces c.self.inside.places) (sym c.in_ok-reserve.ensures.items) c.self.invariant.told) (sym c.in_ok-place.ensures.old ∙ c.in-Some-2.is)

-- what is left of the old slots, with the new edge in front
replacing : (c : goal.After-size-2) → Replaces c.args.pair c.take_out.result c.self.inside.slots.items c.take_out.new.slots.items c.insert.new.self c.in-Some.size
replacing c =
    replaces_in_room c.args.pair c.take_out.result c.in_ok-place.field-0 c.in-Some-2.place c.len.result c.self.inside.slots.items c.reserve.new.self.items c.take_out.new.slots.items
    c.self.inside.places c.insert.new.self c.self.inside.size c.in-Some.size c.self.invariant c.in_ok-reserve.ensures.items c.in_ok-place.ensures.old c.in-Some-2.is
    c.take_out.ensures.taken c.take_out.ensures.edges c.take_out.ensures.places (sym c.take_out.new.slots.ok.0 ∙ c.take_out.ensures.len ∙ c.reserve.new.self.ok.0)
    (c.len.ensures ∙ c.reserve.new.self.ok.0) c.in_ok-place.ensures.updates.0 (omega (arith, c.size.ensures, c.in-Some.ensures.1))

pub overflow_sub-self : goal.overflow_sub-self
overflow_sub-self c = let r = replacing c in omega (arith, r.smaller, c.size-2.ensures)

in_front : (c : goal.After-close_gaps-arg-2-1) → Replaces c.args.pair c.take_out.result c.self.inside.slots.items c.take_out.new.slots.items c.insert.new.self c.in-Some.size
in_front c =
    replaces_in_room c.args.pair c.take_out.result c.in_ok-place.field-0 c.in-Some-2.place c.len.result c.self.inside.slots.items c.reserve.new.self.items c.take_out.new.slots.items
    c.self.inside.places c.insert.new.self c.self.inside.size c.in-Some.size c.self.invariant c.in_ok-reserve.ensures.items c.in_ok-place.ensures.old c.in-Some-2.is
    c.take_out.ensures.taken c.take_out.ensures.edges c.take_out.ensures.places (sym c.take_out.new.slots.ok.0 ∙ c.take_out.ensures.len ∙ c.reserve.new.self.ok.0)
    (c.len.ensures ∙ c.reserve.new.self.ok.0) c.in_ok-place.ensures.updates.0 (omega (arith, c.size.ensures, c.in-Some.ensures.1))

pub close_gaps-requires-clause-distinct : goal.close_gaps-requires-clause-distinct
close_gaps-requires-clause-distinct c = ap (λ s. are_pairs (edges_in s)) c.push_front_reserved-2.ensures.items ∙ (in_front c).differ

pub close_gaps-requires-clause-told : goal.close_gaps-requires-clause-told
close_gaps-requires-clause-told c = subst (TellsPlaces c.insert.new.self) (sym c.push_front_reserved-2.ensures.items) (in_front c).told

closed : (c : goal.After-close_gaps) → Replaces c.args.pair c.take_out.result c.self.inside.slots.items c.take_out.new.slots.items c.insert.new.self c.in-Some.size
closed c =
    replaces_in_room c.args.pair c.take_out.result c.in_ok-place.field-0 c.in-Some-2.place c.len.result c.self.inside.slots.items c.reserve.new.self.items c.take_out.new.slots.items
    c.self.inside.places c.insert.new.self c.self.inside.size c.in-Some.size c.self.invariant c.in_ok-reserve.ensures.items c.in_ok-place.ensures.old c.in-Some-2.is
    c.take_out.ensures.taken c.take_out.ensures.edges c.take_out.ensures.places (sym c.take_out.new.slots.ok.0 ∙ c.take_out.ensures.len ∙ c.reserve.new.self.ok.0)
    (c.len.ensures ∙ c.reserve.new.self.ok.0) c.in_ok-place.ensures.updates.0 (omega (arith, c.size.ensures, c.in-Some.ensures.1))

pub invariant_of-self-2 : goal.invariant_of-self-2
invariant_of-self-2 c =
    let r = closed c in
    let edges = c.close_gaps.ensures.edges ∙ ap edges_in c.push_front_reserved-2.ensures.items in
    record {
      told = c.close_gaps.ensures.told;
      differ = ap are_pairs edges ∙ r.differ;
      sum = ap (λ n. c.in-Some.size - n) c.size-2.ensures ∙ r.sum ∙ sym (ap list_size edges);
    }

pub returns-clause-set : goal.returns-clause-set
returns-clause-set c =
    rw (← c.self.view_is) (c.close_gaps.ensures.edges ∙ ap edges_in c.push_front_reserved-2.ensures.items ∙ (closed c).edges)
