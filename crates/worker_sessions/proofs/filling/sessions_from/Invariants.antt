use Rattle.std.proofs.Common.{◌-◌}
use Rattle.worker_sessions.proofs.Spacing.{Filled}
use Rattle.worker_sessions.proofs.filling.sessions_from.Given as goal

-- the sessions so far
abbrev pub invariant-loop-index : goal.invariant-loop-index
invariant-loop-index l = Filled l.fn.first l.fn.step l.fn.limit l.index l.sessions.items

abbrev pub decreases-loop-index : goal.decreases-loop-index
decreases-loop-index l = l.fn.limit - l.index
