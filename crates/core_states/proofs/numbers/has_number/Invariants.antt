use Rattle.std.proofs.Common.{◌≡◌}
use Rattle.core_states.specs.Numbers.{has_number}
use Rattle.core_states.proofs.numbers.has_number.Given as goal

abbrev pub invariant-loop-number : goal.invariant-loop-number
invariant-loop-number l = has_number l.v l.number-iterator ≡ has_number l.v l.numbers
