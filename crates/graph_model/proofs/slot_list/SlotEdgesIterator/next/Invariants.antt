use Rattle.std.proofs.Common.{◌≡◌, length}
use Rattle.std.specs.VecDeque.Iter.{deque_iter_rest}
use Rattle.graph_model.specs.Gaps.{edges_in}
use Rattle.graph_model.proofs.slot_list.SlotEdgesIterator.next.Given as goal

abbrev pub invariant-loop-slot : goal.invariant-loop-slot
invariant-loop-slot l = edges_in (deque_iter_rest l.self-inside.slots) ≡ l.fn.self

abbrev pub decreases-loop-slot : goal.decreases-loop-slot
decreases-loop-slot l = length (deque_iter_rest l.self-inside.slots)
