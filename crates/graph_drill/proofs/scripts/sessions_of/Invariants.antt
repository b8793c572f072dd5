use Rattle.std.proofs.Common.{◌≡◌, ◌<◌, ℕ, length, get_or}
use Rattle.graph_drill.specs.declared.drill_session.DrillSession.{DrillSession}
use Rattle.graph_drill.specs.Sessions.{IsAfter}
use Rattle.graph_drill.proofs.scripts.sessions_of.Given as goal

-- the sessions below this number are there
abbrev pub invariant-loop-number : goal.invariant-loop-number
invariant-loop-number l = record {
  count : length l.all.items ≡ l.number;
  numbers : (k : ℕ) (x : DrillSession) → k < l.number → (get_or l.all.items k x).number ≡ k;
  each : (k : ℕ) (x : DrillSession) → k < l.number → IsAfter l.drill 0 (get_or l.all.items k x);
}
