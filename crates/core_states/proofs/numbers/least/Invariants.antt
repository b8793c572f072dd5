use Rattle.std.proofs.Common.{◌≡◌, drop}
use Rattle.core_states.specs.Numbers.{least}
use Rattle.core_states.proofs.numbers.least.Given as goal

abbrev pub invariant-loop-row : goal.invariant-loop-row
invariant-loop-row l = least l.n (drop l.row-index l.row-items) ≡ least l.fn.n l.rows
