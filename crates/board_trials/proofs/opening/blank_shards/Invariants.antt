use Rattle.board_trials.specs.Opened.{AreBlank}
use Rattle.board_trials.proofs.opening.blank_shards.Given as goal

abbrev pub invariant-loop-number : goal.invariant-loop-number
invariant-loop-number l = AreBlank l.count l.number l.shards.values.items
