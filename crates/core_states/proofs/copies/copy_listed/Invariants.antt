use Rattle.std.proofs.Common.{◌≡◌, ◌++◌}
use Rattle.core_states.proofs.copies.copy_listed.Given as goal

abbrev pub invariant-loop-change : goal.invariant-loop-change
invariant-loop-change l = l.copy ++ l.change-iterator ≡ l.changes
