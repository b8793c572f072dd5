-- What there is room for.
use Rattle.std.specs.Prelude.{ℕ, ◌+◌, ◌≤◌, length, vec_len, vec_capacity}
use Rattle.std.specs.VecDeque.{deque_capacity, deque_len}
use Rattle.epoch_clock.specs.declared.commits.Commits.{Commits}

-- For so many more transactions there is room for an outcome, for a record, for a moment and the count of a group,
-- and the queue has room for as many members in all.
pub record HasRoomFor (n : ℕ) (c : Commits) : Type 0 where
  pub queue : n ≤ c.queue.room
  pub outcomes : n ≤ c.outcomes.room
  pub records : vec_len c.records + n ≤ vec_capacity c.records
  pub moments : vec_len c.moments + n ≤ vec_capacity c.moments
  pub undone : deque_len c.undone + n ≤ deque_capacity c.undone
