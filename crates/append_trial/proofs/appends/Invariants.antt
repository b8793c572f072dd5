use Rattle.std.proofs.Common.{◌<◌, ◌≤◌, ◌^◌}
use Rattle.append_trial.proofs.appends.Given as goal

abbrev pub invariant-loop-epoch : goal.invariant-loop-epoch
invariant-loop-epoch l = (9 ≤ l.wal.durable) × (l.wal.durable < 2 ^ 63)
