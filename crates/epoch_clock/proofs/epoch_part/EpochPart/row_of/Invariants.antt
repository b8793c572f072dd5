use Rattle.std.proofs.Common.{ℕ, ◌<◌, slice_get}
use Rattle.epoch_clock.specs.ActiveRows.{RunsIn}
use Rattle.epoch_clock.proofs.epoch_part.EpochPart.row_of.Given as goal

-- no row so far is the transaction's
abbrev pub invariant-loop-row : goal.invariant-loop-row
invariant-loop-row l = (i : ℕ) → i < l.row → RunsIn (slice_get l.self.readers i) l.tid → ⊥
