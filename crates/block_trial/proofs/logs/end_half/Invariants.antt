use Rattle.block_trial.specs.Logs.{IsLog}
use Rattle.block_trial.proofs.logs.end_half.Given as goal

abbrev pub invariant-loop-place : goal.invariant-loop-place
invariant-loop-place l = IsLog l.fn.order l.fn.fill.entries l.fn.fill.props l.fn.block → IsLog l.fn.order l.fn.fill.entries l.fn.fill.props l.block
