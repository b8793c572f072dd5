use Rattle.std.proofs.Common.{length}
use Rattle.script_reading.proofs.Pieces.{ReadSoFar}
use Rattle.script_reading.proofs.reading.read_alone.Given as goal

-- the lines before the rest were read
abbrev pub invariant-loop-rest : goal.invariant-loop-rest
invariant-loop-rest l = record { so_far : ReadSoFar l.bytes l.rest l.script }

abbrev pub decreases-loop-rest : goal.decreases-loop-rest
decreases-loop-rest l = length l.rest
