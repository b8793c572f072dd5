use Rattle.std.specs.VecDeque.Iter.{deque_iter_rest}
use Rattle.graph_model.proofs.Gaps.{IsTelling}
use Rattle.graph_model.proofs.slots.tell_places.Given as goal

abbrev pub invariant-loop-slot : goal.invariant-loop-slot
invariant-loop-slot l = IsTelling l.slots.items (deque_iter_rest l.slot-iterator) l.places l.place
