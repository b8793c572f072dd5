use Rattle.std.specs.Prelude.{IfSome}
use Rattle.edge_log.specs.Places.{IsPlaceIn}
use Rattle.log_scripts.proofs.readings.note_old_scan.Given as goal

abbrev pub invariant-loop : goal.invariant-loop
invariant-loop g l = IfSome l.place (IsPlaceIn (g.L.EdgeLog.old_content l.old l.room).entries)
