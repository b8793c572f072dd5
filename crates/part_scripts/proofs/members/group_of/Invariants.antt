use Rattle.std.proofs.Common.{◌≡◌, ◌++◌}
use Rattle.group_commit.specs.Members.{records_at}
use Rattle.part_scripts.proofs.members.group_of.Given as goal

-- the members so far, and the records that are left, are all
abbrev pub invariant-loop-record : goal.invariant-loop-record
invariant-loop-record l = records_at 0 l.group ++ l.record-iterator ≡ l.records
