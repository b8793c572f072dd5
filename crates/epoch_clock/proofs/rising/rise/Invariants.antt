use Rattle.std.proofs.Common.{◌≡◌, ◌+◌, length}
use Rattle.std.specs.VecDeque.{deque_capacity}
use Rattle.epoch_clock.specs.Decided.{risen}
use Rattle.epoch_clock.proofs.rising.rise.Given as goal

abbrev pub invariant-loop-undone : goal.invariant-loop-undone
invariant-loop-undone l = record {
  visible : l.visible + length l.undone.items ≡ l.initial.visible + length l.initial.undone.items;
  undone : risen l.undone.items ≡ risen l.initial.undone.items;
  capacity : deque_capacity l.undone ≡ deque_capacity l.initial.undone;
}

abbrev pub decreases-loop-undone : goal.decreases-loop-undone
decreases-loop-undone l = length l.undone.items
