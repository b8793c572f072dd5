use Rattle.std.proofs.Common.{◌≡◌, ◌++◌}
use Rattle.core_states.specs.Numbers.{numbered}
use Rattle.core_events.proofs.log_events.numbered_copies.Given as goal

abbrev pub invariant-loop-record : goal.invariant-loop-record
invariant-loop-record l = l.copies ++ numbered l.epoch l.record-iterator ≡ numbered l.epoch l.records
