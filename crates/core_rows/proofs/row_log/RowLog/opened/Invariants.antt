use Rattle.std.proofs.Common.{◌≡◌, ◌≤◌, length, drop}
use Rattle.core_rows.proofs.OpenedLogs.{pending_log}
use Rattle.core_rows.proofs.row_log.RowLog.opened.Given as goal

-- the edges from the place on stand in the log, not yet committed
abbrev pub invariant-loop-left : goal.invariant-loop-left
invariant-loop-left l = record {
  within : l.left ≤ length l.pairs;
  appended : l.log ≡ pending_log (drop l.left l.pairs);
}

abbrev pub decreases-loop-left : goal.decreases-loop-left
decreases-loop-left l = l.left
