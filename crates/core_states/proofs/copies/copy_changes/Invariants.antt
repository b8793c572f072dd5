use Rattle.std.proofs.Common.{◌≡◌, take}
use Rattle.core_states.proofs.copies.copy_changes.Given as goal

abbrev pub invariant-loop-change : goal.invariant-loop-change
invariant-loop-change l = l.copy ≡ take l.change-index l.change-items
