use Rattle.std.proofs.Common.{◌≡◌, ◌≤◌, ◌<◌, ◌-◌, ◌++◌, ℕ, length, flat_map, get_or}
use Rattle.std.specs.List.{range_with_len}
use Rattle.graph_drill.specs.declared.drill_session.DrillSession.{DrillSession}
use Rattle.graph_drill.specs.Scripts.{session_lines}
use Rattle.graph_drill.specs.Sessions.{IsAfter}
use Rattle.graph_drill.proofs.scripts.push_round.Given as goal

-- the sessions before this one have appended their lines
abbrev pub invariant-loop-session : goal.invariant-loop-session
invariant-loop-session l = record {
  count : length l.all ≡ l.drill.sessions;
  numbers : (k : ℕ) (x : DrillSession) → k < length l.all → (get_or l.all k x).number ≡ k;
  gone : (k : ℕ) (x : DrillSession) → k < l.session-index → IsAfter l.drill l.round (get_or l.all k x);
  left : (k : ℕ) (x : DrillSession) → l.session-index ≤ k → k < length l.all → IsAfter l.drill (l.round - 1) (get_or l.all k x);
  pushed : l.script ≡ l.fn.script ++ flat_map (session_lines l.drill.seed l.drill.next_vertex l.round) (range_with_len 0 l.session-index);
}
