use Rattle.std.proofs.Common.{◌≡◌, ◌+◌, drop, length}
use Rattle.graph_model.specs.Records.{all_changes}
use Rattle.drill_runs.proofs.summary.change_count.Given as goal

-- the changes of the records so far are counted
abbrev pub invariant-loop-record : goal.invariant-loop-record
invariant-loop-record l = length (all_changes (drop l.record-index l.records)) + l.count ≡ length (all_changes l.records)
