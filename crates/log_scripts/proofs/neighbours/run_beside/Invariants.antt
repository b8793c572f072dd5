use Rattle.edge_log.specs.Places.{IsPlaceIn}
use Rattle.edge_log.specs.Rooms.{AreApart}
use Rattle.log_scripts.specs.Owners.{IsOwned}
use Rattle.log_scripts.proofs.neighbours.run_beside.Given as goal

abbrev pub invariant-loop-step : goal.invariant-loop-step
invariant-loop-step g l = let L = g.L.EdgeLog in record {
  left : L.stands l.left l.room;
  right : L.stands l.right l.room;
  left_owned : IsOwned l.left_writer.read l.left_writer.tid (L.content l.left l.room);
  right_owned : IsOwned l.right_writer.read l.right_writer.tid (L.content l.right l.room);
  old : L.old_stands l.old l.room;
  place : IsPlaceIn (L.old_content l.old l.room).entries l.from;
  apart : AreApart (L.footprint l.left) (L.footprint l.right);
  left_apart : AreApart (L.footprint l.left) (L.old_footprint l.old);
  right_apart : AreApart (L.footprint l.right) (L.old_footprint l.old);
}
