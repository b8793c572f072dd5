use Rattle.std.specs.Prelude.{IfSome}
use Rattle.edge_log.specs.Places.{IsPlaceIn}
use Rattle.log_scripts.proofs.readings.note_scan.Given as goal

abbrev pub invariant-loop : goal.invariant-loop
invariant-loop g l = IfSome l.place (IsPlaceIn (g.L.EdgeLog.content l.log l.room).entries)
