use Rattle.std.proofs.Common.{◌<◌, ◌≤◌, ◌^◌}
use Rattle.log_rows.proofs.appends.three.Given as goal

abbrev pub invariant-loop-tid : goal.invariant-loop-tid
invariant-loop-tid l = (9 ≤ l.wal.durable) × (l.wal.durable < 2 ^ 63)
