use Rattle.store_trial.specs.Hands.{GoesOn}
use Rattle.store_trial.proofs.work.calls.Given as goal

abbrev pub invariant-loop-i : goal.invariant-loop-i
invariant-loop-i g l = GoesOn l.board.turns l.board.shards l.fn.hand.pass l.hand.pass l.hand.session
