use Rattle.std.proofs.Common.{◌≡◌, drop}
use Rattle.core_states.specs.Numbers.{has_number}
use Rattle.core_states.proofs.listed.is_among.Given as goal

abbrev pub invariant-loop-number : goal.invariant-loop-number
invariant-loop-number l = has_number l.v (drop l.number-index l.numbers) ≡ has_number l.v l.numbers
