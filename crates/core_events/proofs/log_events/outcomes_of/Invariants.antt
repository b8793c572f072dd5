use Rattle.std.proofs.Common.{◌≡◌, ◌++◌}
use Rattle.core_states.specs.Numbers.{settled_as}
use Rattle.core_events.proofs.log_events.outcomes_of.Given as goal

abbrev pub invariant-loop-record : goal.invariant-loop-record
invariant-loop-record l = l.kept ++ settled_as l.outcome l.record-iterator ≡ settled_as l.outcome l.group
