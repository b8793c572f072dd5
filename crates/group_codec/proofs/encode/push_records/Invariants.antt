use Rattle.std.proofs.Common.{◌≡◌, ◌++◌, take, true}
use Rattle.std.specs.Prelude.{flat_map}
use Rattle.std.specs.List.{list_all}
use Rattle.group_codec.specs.Spelling.{record_bytes, is_spelled}
use Rattle.group_codec.proofs.encode.push_records.Given as goal

abbrev pub invariant-loop-record : goal.invariant-loop-record
invariant-loop-record l = (l.out ≡ l.fn.out ++ flat_map record_bytes (take l.record-index l.records)) × (list_all (is_spelled l.epoch) (take l.record-index l.records) ≡ true)
