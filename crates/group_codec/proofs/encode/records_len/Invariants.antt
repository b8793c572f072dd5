use Rattle.std.proofs.Common.{◌≡◌, ◌≤◌, ◌*◌, take, length}
use Rattle.std.specs.Prelude.{flat_map}
use Rattle.group_codec.specs.Spelling.{record_bytes}
use Rattle.group_codec.proofs.encode.records_len.Given as goal

abbrev pub invariant-loop-record : goal.invariant-loop-record
invariant-loop-record l = (l.len ≡ length (flat_map record_bytes (take l.record-index l.records))) × (l.len ≤ 16777236 * l.record-index)
