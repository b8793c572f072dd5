use Rattle.std.proofs.Common.{◌≡◌, ◌≤◌, ◌+◌, length, reverse, vec_capacity}
use Rattle.turn_board.specs.Board.{known}
use Rattle.turn_board.specs.Views.{start_of}
use Rattle.store_workers.specs.Crews.{At, HasParted, IsCrew, AreNumbered, Waits}
use Rattle.store_workers.proofs.crew.split_all.Given as goal

-- as many passes were split off as there are workers
abbrev pub invariant-loop-crew : goal.invariant-loop-crew
invariant-loop-crew g l = record {
  parted : At l.store.board.turns l.store.board.shards (HasParted (known l.fn.pass) (length l.workers.items)) l.pass;
  wait : AreNumbered (Waits l.store.board.turns l.store.board.shards l.count l.script (start_of (known l.fn.pass)) (known l.fn.pass).number) 0 l.workers.items;
  ready : AreNumbered (IsCrew l.count l.script) (length l.workers.items) (reverse l.crews.items);
  len : length l.workers.items + length l.crews.items ≡ length l.fn.crews.items;
  room : length l.fn.crews.items ≤ vec_capacity l.workers;
}

abbrev pub decreases-loop-crew : goal.decreases-loop-crew
decreases-loop-crew g l = goal.left-loop-crew g l
