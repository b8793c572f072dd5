use Rattle.worker_sessions.specs.Sessions.{HaveClosed, IsDone, MayClose}
use Rattle.worker_sessions.proofs.Serving.{SoFar}
use Rattle.worker_sessions.proofs.sessions.close_all.Given as goal

-- so many are done
abbrev pub invariant-loop-i : goal.invariant-loop-i
invariant-loop-i g l = SoFar HaveClosed IsDone MayClose l.board.turns l.board.shards l.fn.pass l.pass l.fn.sessions l.sessions l.i
