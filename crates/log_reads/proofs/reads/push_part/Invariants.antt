use Rattle.std.proofs.Common.{◌≡◌, ◌++◌, take}
use Rattle.log_reads.proofs.reads.push_part.Given as goal

-- the edges so far stand behind those that were there
abbrev pub invariant-loop-i : goal.invariant-loop-i
invariant-loop-i l = l.pairs ≡ l.initial.pairs ++ take l.i l.part.pairs
