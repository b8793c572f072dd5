use Rattle.std.proofs.Common.{◌≡◌, false, take}
use Rattle.group_commit.specs.Members.{records_at}
use Rattle.core_states.specs.Numbers.{has_record}
use Rattle.store_leads.proofs.ending.has_member.Given as goal

-- none of the first members is it
abbrev pub invariant-loop-i : goal.invariant-loop-i
invariant-loop-i l = has_record l.tid (records_at 0 (take l.i l.group)) ≡ false
