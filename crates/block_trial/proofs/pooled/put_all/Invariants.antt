use Rattle.block_trial.proofs.pooled.put_all.Given as goal

-- the log stands in the pool
abbrev pub invariant-loop-d : goal.invariant-loop-d
invariant-loop-d g l = g.L.EdgeLog.stands l.log l.room
