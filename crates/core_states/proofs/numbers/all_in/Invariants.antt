use Rattle.std.proofs.Common.{◌≡◌}
use Rattle.core_states.specs.Numbers.{all_in}
use Rattle.core_states.proofs.numbers.all_in.Given as goal

abbrev pub invariant-loop-number : goal.invariant-loop-number
invariant-loop-number l = all_in l.number-iterator l.others ≡ all_in l.numbers l.others
