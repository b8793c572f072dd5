use Rattle.std.proofs.Common.{◌≡◌, drop}
use Rattle.core_states.specs.Numbers.{least_tid}
use Rattle.core_states.proofs.numbers.least_tid.Given as goal

abbrev pub invariant-loop-row : goal.invariant-loop-row
invariant-loop-row l = least_tid l.n (drop l.row-index l.row-items) ≡ least_tid l.fn.n l.rows
