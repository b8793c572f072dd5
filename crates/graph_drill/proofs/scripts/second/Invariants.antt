use Rattle.std.proofs.Common.{◌≡◌, flat_map}
use Rattle.std.specs.List.{range_with_len}
use Rattle.graph_drill.specs.Scripts.{round_lines}
use Rattle.graph_drill.specs.Sessions.{AreAfter}
use Rattle.graph_drill.proofs.scripts.second.Given as goal

-- so many rounds were appended
abbrev pub invariant-loop-done : goal.invariant-loop-done
invariant-loop-done l = record {
  after : AreAfter l.drill l.done l.sessions.items;
  pushed : l.script ≡ flat_map (round_lines l.drill.seed l.drill.next_vertex l.drill.sessions) (range_with_len 1 l.done);
}
