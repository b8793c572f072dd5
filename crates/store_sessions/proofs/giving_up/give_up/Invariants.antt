use Rattle.store_sessions.specs.Undoing.{Undoes, taken_in}
use Rattle.store_sessions.proofs.giving_up.give_up.Given as goal

-- some is undone
abbrev pub invariant-loop-v : goal.invariant-loop-v
invariant-loop-v g l = Undoes l.board.turns l.board.shards l.fn.pass l.pass l.fn.session l.session

abbrev pub decreases-loop-v : goal.decreases-loop-v
decreases-loop-v g l = taken_in l.session.work
