use Rattle.std.specs.List.{All}
use Rattle.store_storms.specs.Putters.{IsAtStorm, IsFirst, numbers_of}
use Rattle.store_storms.proofs.crew.join_all.Given as goal

-- as many are out as are left
abbrev pub invariant-loop-worker : goal.invariant-loop-worker
invariant-loop-worker g l = record {
  out : IsFirst l.store.board.turns l.store.board.shards (numbers_of l.workers.items) l.pass;
  at : All (λ w. IsAtStorm l.store.board.turns l.store.board.shards w) l.workers.items;
}

abbrev pub decreases-loop-worker : goal.decreases-loop-worker
decreases-loop-worker g l = goal.left-loop-worker g l
