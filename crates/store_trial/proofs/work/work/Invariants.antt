use Rattle.store_trial.specs.Hands.{GoesOn}
use Rattle.store_trial.proofs.work.work.Given as goal

abbrev pub invariant-loop-n : goal.invariant-loop-n
invariant-loop-n g l = GoesOn l.board.turns l.board.shards l.fn.hand.pass l.hand.pass l.hand.session
