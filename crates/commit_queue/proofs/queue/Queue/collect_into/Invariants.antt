use Rattle.std.proofs.Common.{◌≡◌, ◌-◌, ◌≤◌, ◌++◌, length}
use Rattle.std.specs.VecDeque.{deque_capacity}
use Rattle.graph_model.specs.Records.{group_most}
use Rattle.commit_queue.proofs.queue.Queue.collect_into.Given as goal

abbrev pub invariant-loop-self : goal.invariant-loop-self
invariant-loop-self l = record {
  all : l.group ++ l.self-inside.members.items ≡ l.initial.self-inside.members.items;
  most : length l.group ≤ group_most;
  room : deque_capacity l.self-inside.members ≡ deque_capacity l.initial.self-inside.members;
}

abbrev pub decreases-loop-self : goal.decreases-loop-self
decreases-loop-self l = group_most - length l.group
