use Rattle.part_trial.specs.Only.{IsOnly}
use Rattle.part_trial.proofs.parts.apply_all.Given as goal

-- the shard is still the only one
abbrev pub invariant-loop-v : goal.invariant-loop-v
invariant-loop-v l = IsOnly l.shard
