use Rattle.std.proofs.Common.{◌≡◌, ◌++◌}
use Rattle.core_states.specs.Numbers.{pending_of}
use Rattle.core_events.proofs.log_events.pending_of.Given as goal

abbrev pub invariant-loop-record : goal.invariant-loop-record
invariant-loop-record l = l.pending ++ pending_of l.epoch l.record-iterator ≡ pending_of l.epoch l.group
