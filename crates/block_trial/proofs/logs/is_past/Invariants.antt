use Rattle.std.proofs.Common.{ℕ, ◌<◌}
use Rattle.block_trial.proofs.LogLemmas.{IsPastAt}
use Rattle.block_trial.proofs.logs.is_past.Given as goal

-- those below the place are
abbrev pub invariant-loop-place : goal.invariant-loop-place
invariant-loop-place l = (n : ℕ) → n < l.place → IsPastAt 5 l.block n
