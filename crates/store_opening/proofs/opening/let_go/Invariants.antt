use Rattle.std.proofs.Common.{length}
use Rattle.store_opening.specs.Opened.{AreShards}
use Rattle.store_opening.proofs.opening.let_go.Given as goal

abbrev pub invariant-loop-value : goal.invariant-loop-value
invariant-loop-value g l = AreShards l.values.items

abbrev pub decreases-loop-value : goal.decreases-loop-value
decreases-loop-value g l = length l.values.items
