use Rattle.std.proofs.Common.{◌≡◌, ◌++◌, take, true}
use Rattle.std.specs.List.{list_all}
use Rattle.group_codec.specs.Spelling.{changes_bytes, has_fields}
use Rattle.group_codec.proofs.encode.push_changes.Given as goal

abbrev pub invariant-loop-change : goal.invariant-loop-change
invariant-loop-change l = (l.out ≡ l.fn.out ++ changes_bytes (take l.change-index l.changes)) × (list_all has_fields (take l.change-index l.changes) ≡ true)
