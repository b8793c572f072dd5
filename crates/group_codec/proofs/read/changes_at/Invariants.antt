use Rattle.std.proofs.Common.{◌≡◌, length}
use Rattle.group_codec.specs.Spelling.{change_bytes, has_fields}
use Rattle.group_codec.specs.Reading.{ReadsUpTo}
use Rattle.group_codec.proofs.read.changes_at.Given as goal

abbrev pub invariant-loop-turn : goal.invariant-loop-turn
invariant-loop-turn l = (length l.changes ≡ l._turn) × ReadsUpTo has_fields change_bytes l.bytes l.changes l.size
