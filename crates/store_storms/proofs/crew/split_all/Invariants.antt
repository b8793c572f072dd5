use Rattle.std.proofs.Common.{◌≡◌, ◌≤◌, length, vec_capacity}
use Rattle.std.specs.List.{All}
use Rattle.store_storms.specs.Putters.{IsAtStorm, IsFirst, numbers_of}
use Rattle.store_storms.proofs.crew.split_all.Given as goal

-- as many passes were split off as there are workers
abbrev pub invariant-loop-number : goal.invariant-loop-number
invariant-loop-number g l = record {
  out : IsFirst l.store.board.turns l.store.board.shards (numbers_of l.workers.items) l.pass;
  at : All (λ w. IsAtStorm l.store.board.turns l.store.board.shards w) l.workers.items;
  len : length l.workers.items ≡ l.number;
  room : l.count ≤ vec_capacity l.workers;
}
