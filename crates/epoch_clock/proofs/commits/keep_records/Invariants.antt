use Rattle.std.proofs.Common.{◌≡◌, ◌+◌, ◌++◌, length, reverse, vec_len, vec_capacity}
use Rattle.group_commit.specs.Members.{records_at}
use Rattle.epoch_clock.proofs.commits.keep_records.Given as goal

-- the group was turned round, so that its last member is the next one
abbrev pub invariant-loop-member : goal.invariant-loop-member
invariant-loop-member l = record {
  all : l.records.items ++ records_at l.epoch (reverse l.group) ≡ l.fn.records.items ++ records_at l.epoch l.fn.group;
  len : vec_len l.records + length l.group ≡ vec_len l.fn.records + length l.fn.group;
  capacity : vec_capacity l.records ≡ vec_capacity l.fn.records;
}

abbrev pub decreases-loop-member : goal.decreases-loop-member
decreases-loop-member l = length l.group
