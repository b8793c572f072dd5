use Rattle.std.proofs.Common.{◌≡◌, ◌+◌, ◌≤◌, length, reverse, vec_capacity}
use Rattle.store_workers.specs.Crews.{AreNumbered, IsCrew}
use Rattle.store_workers.proofs.filling.shares_for.Given as goal

-- the crews from this one on are made
abbrev pub invariant-loop-left : goal.invariant-loop-left
invariant-loop-left l = record {
  crews : AreNumbered (IsCrew l.count l.script) l.left (reverse l.crews.items);
  many : length l.crews.items + l.left ≡ l.count;
  room : l.count ≤ vec_capacity l.crews;
}

abbrev pub decreases-loop-left : goal.decreases-loop-left
decreases-loop-left l = l.left
