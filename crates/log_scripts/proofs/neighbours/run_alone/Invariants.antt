use Rattle.log_scripts.specs.Owners.{IsOwned}
use Rattle.log_scripts.proofs.neighbours.run_alone.Given as goal

abbrev pub invariant-loop-step : goal.invariant-loop-step
invariant-loop-step g l = record {
  stands : g.L.EdgeLog.stands l.log l.room;
  owned : IsOwned l.writer.read l.writer.tid (g.L.EdgeLog.content l.log l.room);
}
