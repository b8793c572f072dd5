-- The queue by its fields.
use Rattle.std.specs.VecDeque.{deque_capacity}
use Rattle.commit_queue.specs.Waiting.{Waiting}
use Rattle.commit_queue.specs.declared.queue.Queue.TheInside.{Inside}

abbrev pub waiting : Inside → Waiting
waiting a = record { members = a.members.items; room = deque_capacity a.members }
