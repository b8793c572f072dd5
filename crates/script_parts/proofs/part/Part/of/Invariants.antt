use Rattle.std.proofs.Common.{◌≡◌, ◌≤◌, map, take, length, vec_capacity}
use Rattle.script_parts.specs.InParts.{session_of}
use Rattle.script_parts.proofs.part.Part.of.Given as goal

-- the sessions of the lines so far
abbrev pub invariant-loop-line : goal.invariant-loop-line
invariant-loop-line l = record {
  noted : l.sessions.items ≡ map session_of (take l.line-index l.line-items);
  room : length l.line-items ≤ vec_capacity l.sessions;
}
