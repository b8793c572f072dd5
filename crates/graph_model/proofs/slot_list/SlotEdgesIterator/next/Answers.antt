-- Gaps are passed, and show nothing.
use Rattle.std.proofs.Common.{◌∙◌, ◌∷◌, sym, ap}
use Rattle.std.specs.VecDeque.Iter.{deque_iter_rest}
use Rattle.graph_model.specs.Gaps.{edges_in}
use Rattle.graph_model.proofs.slot_list.SlotEdgesIterator.next.Goals as goal

pub returns-in-Some-slot-clause-steps : goal.returns-in-Some-slot-clause-steps
returns-in-Some-slot-clause-steps c =
    sym c.loop-slot.invariant ∙ ap edges_in (c.in-Some.ensures.steps ∙ ap (λ s. s ∷ deque_iter_rest c.next.new.self) c.in-Some-slot.is)
