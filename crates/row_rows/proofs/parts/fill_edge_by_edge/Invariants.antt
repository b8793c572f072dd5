use Rattle.std.proofs.Common.{◌≤◌, length}
use Rattle.row_rows.proofs.parts.fill_edge_by_edge.Given as goal

-- what is left is within the payloads
abbrev pub invariant-loop-d : goal.invariant-loop-d
invariant-loop-d l = l.left ≤ length l.look.payloads.now
