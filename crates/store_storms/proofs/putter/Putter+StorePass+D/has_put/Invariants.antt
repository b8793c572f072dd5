use Rattle.std.proofs.Common.{◌≡◌}
use Rattle.store_storms.specs.Putters.{IsAtStorm, number_of}
use Rattle.store_storms.proofs.putter.«Putter+StorePass+D».has_put.Given as goal

-- no edge was put yet
abbrev pub invariant-loop : goal.invariant-loop
invariant-loop g l = IsAtStorm l.board.turns l.board.shards l.self × (number_of l.self ≡ number_of l.fn.self)
