use Rattle.std.proofs.Common.{◌≡◌, take, true}
use Rattle.std.specs.List.{list_all}
use Rattle.group_codec.specs.Spelling.{changes_bytes, has_fields}
use Rattle.part_scripts.proofs.members.spelled.Given as goal

-- what is spelled so far
abbrev pub invariant-loop-change : goal.invariant-loop-change
invariant-loop-change l = (l.bytes ≡ changes_bytes (take l.change-index l.change-items)) × (list_all has_fields (take l.change-index l.change-items) ≡ true)
