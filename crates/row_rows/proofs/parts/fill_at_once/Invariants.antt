use Rattle.std.proofs.Common.{◌≡◌, length}
use Rattle.row_rows.proofs.parts.fill_at_once.Given as goal

-- what is left is the part's range
abbrev pub invariant-loop-d : goal.invariant-loop-d
invariant-loop-d l = l.left ≡ length l.part.range
