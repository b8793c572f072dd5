use Rattle.std.proofs.Common.{◌≡◌}
use Rattle.core_states.specs.Numbers.{has_record}
use Rattle.core_states.proofs.numbers.has_record.Given as goal

abbrev pub invariant-loop-record : goal.invariant-loop-record
invariant-loop-record l = has_record l.tid l.record-iterator ≡ has_record l.tid l.records
