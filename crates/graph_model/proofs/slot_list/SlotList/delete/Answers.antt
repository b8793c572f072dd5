-- The map loses the destination with the slot, and what the map lacks the list lacks.
use Rattle.std.proofs.Common.{◌≡◌, ◌+◌, ◌∙◌, cond, None, sym, ap, arith}
use Rattle.std.specs.Prelude.{◌==◌}
use Rattle.graph_model.specs.Graph.{without_pair}
use Rattle.graph_model.specs.Change.{edge_size}
use Rattle.graph_model.specs.Sizes.{list_size}
use Rattle.graph_model.specs.Whole.{are_pairs}
use Rattle.graph_model.specs.Gaps.{edges_in, place_of}
use Rattle.graph_model.proofs.EdgeLists.{without_pair-absent}
use Rattle.graph_model.proofs.Wholes.{are_pairs-without}
use Rattle.graph_model.proofs.Sizes.{list_size-without}
use Rattle.graph_model.proofs.Gaps.{there, found, found-destination, missing, told-without}
use Rattle.graph_model.proofs.slot_list.SlotList.delete.Goals as goal

pub take_out-requires-clause-there : goal.take_out-requires-clause-there
take_out-requires-clause-there c = there c.args.d c.in-Some.place c.self.inside.slots.items c.self.inside.places c.self.invariant.told (sym c.in-Some.ensures.value)

smaller : (c : goal.After-size) → list_size (without_pair c.args.d (edges_in c.self.inside.slots.items)) + edge_size c.take_out.result.p ≡ list_size (edges_in c.self.inside.slots.items)
smaller c =
    list_size-without c.args.d c.take_out.result (edges_in c.self.inside.slots.items) c.self.invariant.differ
    (found c.args.d c.in-Some.place c.take_out.result c.self.inside.slots.items c.self.inside.places c.self.invariant.told (sym c.in-Some.ensures.value) c.take_out.ensures.taken)

pub overflow_sub-self : goal.overflow_sub-self
overflow_sub-self c = omega (arith, smaller c, c.self.invariant.sum, c.size.ensures)

-- the edge that was taken is that to d
its : (c : goal.After-close_gaps-arg-in-Some-1) → c.take_out.result.d ≡ c.args.d
its c = found-destination c.args.d c.in-Some.place c.take_out.result c.self.inside.slots.items c.self.inside.places c.self.invariant.told (sym c.in-Some.ensures.value) c.take_out.ensures.taken

edges : (c : goal.After-close_gaps-arg-in-Some-1) → edges_in c.take_out.new.slots.items ≡ without_pair c.args.d (edges_in c.self.inside.slots.items)
edges c = c.take_out.ensures.edges ∙ ap (λ d. without_pair d (edges_in c.self.inside.slots.items)) (its c)

pub close_gaps-requires-clause-distinct : goal.close_gaps-requires-clause-distinct
close_gaps-requires-clause-distinct c = ap are_pairs (edges c) ∙ are_pairs-without c.args.d (edges_in c.self.inside.slots.items) c.self.invariant.differ

pub close_gaps-requires-clause-told : goal.close_gaps-requires-clause-told
close_gaps-requires-clause-told c =
    told-without c.args.d c.self.inside.slots.items c.take_out.new.slots.items c.self.inside.places c.remove.new.self c.self.invariant.told
    (λ q. c.take_out.ensures.places q ∙ ap (λ d. cond (d == q) None (place_of q c.self.inside.slots.items)) (its c)) c.in-Some.ensures.updates.0

pub invariant_of-self : goal.invariant_of-self
invariant_of-self c =
    let pairs = edges_in c.self.inside.slots.items in
    let first = found c.args.d c.in-Some.place c.take_out.result c.self.inside.slots.items c.self.inside.places c.self.invariant.told (sym c.in-Some.ensures.value) c.take_out.ensures.taken in
    let its = found-destination c.args.d c.in-Some.place c.take_out.result c.self.inside.slots.items c.self.inside.places c.self.invariant.told (sym c.in-Some.ensures.value) c.take_out.ensures.taken in
    let left : edges_in c.close_gaps.new.slots.items ≡ without_pair c.args.d pairs = c.close_gaps.ensures.edges ∙ c.take_out.ensures.edges ∙ ap (λ d. without_pair d pairs) its in
    let size = list_size-without c.args.d c.take_out.result pairs c.self.invariant.differ first in
    let sum = ap list_size left in
    record {
      told = c.close_gaps.ensures.told;
      differ = ap are_pairs left ∙ are_pairs-without c.args.d pairs c.self.invariant.differ;
      sum = omega (arith, size, sum, c.self.invariant.sum, c.size.ensures);
    }

pub returns-in-Some : goal.returns-in-Some
returns-in-Some c =
    let pairs = edges_in c.self.inside.slots.items in
    let its = found-destination c.args.d c.in-Some.place c.take_out.result c.self.inside.slots.items c.self.inside.places c.self.invariant.told (sym c.in-Some.ensures.value) c.take_out.ensures.taken in
    rw (← c.self.view_is) (c.close_gaps.ensures.edges ∙ c.take_out.ensures.edges ∙ ap (λ d. without_pair d pairs) its)

pub returns-in_default : goal.returns-in_default
returns-in_default c =
    let slots = c.self.inside.slots.items in
    rw (← c.self.view_is) (sym (without_pair-absent c.args.d (edges_in slots) (missing c.args.d slots c.self.inside.places c.self.invariant.told (sym c.in_default.ensures.value))))
