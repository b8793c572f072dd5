use Rattle.std.proofs.Common.{◌≡◌}
use Rattle.core_states.specs.Numbers.{outcome_of}
use Rattle.core_states.proofs.numbers.outcome_of.Given as goal

abbrev pub invariant-loop-kept : goal.invariant-loop-kept
invariant-loop-kept l = outcome_of l.tid l.kept-iterator ≡ outcome_of l.tid l.outcomes
