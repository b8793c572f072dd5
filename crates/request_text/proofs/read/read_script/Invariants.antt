use Rattle.std.proofs.Common.{◌≡◌, ◌+◌, ◌≤◌, length}
use Rattle.request_text.specs.Scripts.{lines_from, lines_of, script_of}
use Rattle.request_text.proofs.Lines.{with_front}
use Rattle.request_text.proofs.read.read_script.Given as goal

-- the lines so far, in front of what the rest is, are what the text is
abbrev pub invariant-loop-rest : goal.invariant-loop-rest
invariant-loop-rest l = record {
  lines : with_front l.script (lines_from (l.number + 1) (lines_of l.rest)) ≡ script_of l.bytes;
  within : l.number + length l.rest ≤ length l.bytes;
}

abbrev pub decreases-loop-rest : goal.decreases-loop-rest
decreases-loop-rest l = length l.rest
