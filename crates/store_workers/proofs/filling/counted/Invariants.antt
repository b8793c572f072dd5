use Rattle.std.proofs.Common.{◌≡◌, ◌<◌, ◌≤◌, map, drop, length, vec_capacity}
use Rattle.script_parts.specs.InParts.{lines_in, session_of}
use Rattle.script_parts.proofs.Going.{left_in}
use Rattle.store_workers.proofs.Counting.{AreCounted, part_at}
use Rattle.store_workers.proofs.filling.counted.Given as goal

-- the lines before this part are counted
abbrev pub invariant-loop-part : goal.invariant-loop-part
invariant-loop-part l = record {
  counted : AreCounted l.count l.script (lines_in (drop l.part-index l.part-items)) l.lines.items l.owners.items l.limit;
  room : 1 < l.count → length l.script ≤ vec_capacity l.owners;
}

-- and of this part those before this one
abbrev pub invariant-loop-session : goal.invariant-loop-session
invariant-loop-session l = record {
  counted : AreCounted l.count l.script (left_in l.part-items l.part-index (part_at l.part-items l.part-index) l.session-index) l.lines.items l.owners.items l.limit;
  sessions : l.session-items ≡ map session_of (part_at l.part-items l.part-index);
  room : 1 < l.count → length l.script ≤ vec_capacity l.owners;
}
