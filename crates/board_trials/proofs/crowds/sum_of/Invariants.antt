use Rattle.board_trials.proofs.crowds.sum_of.Given as goal

abbrev pub invariant-loop-value : goal.invariant-loop-value
invariant-loop-value l = Unit {0}

abbrev pub decreases-loop-value : goal.decreases-loop-value
decreases-loop-value l = goal.left-loop-value l
