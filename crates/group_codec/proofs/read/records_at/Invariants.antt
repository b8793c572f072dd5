use Rattle.std.proofs.Common.{◌≡◌, length}
use Rattle.group_codec.specs.Spelling.{record_bytes, is_spelled}
use Rattle.group_codec.specs.Reading.{ReadsUpTo}
use Rattle.group_codec.proofs.read.records_at.Given as goal

abbrev pub invariant-loop-turn : goal.invariant-loop-turn
invariant-loop-turn l = (length l.records ≡ l._turn) × ReadsUpTo (is_spelled l.epoch) record_bytes l.bytes l.records l.size
