use Rattle.std.proofs.Common.{ℕ}
use Rattle.store_turns.specs.declared.session.Work.{Work}
use Rattle.store_turns.specs.Moves.{Won}
use Rattle.store_sessions.specs.Undoing.{taken_in}
use Rattle.store_commits.specs.Committing.{HasApplied}
use Rattle.store_commits.proofs.applying.apply_all.Given as goal

-- some is applied, of the epoch that was won
abbrev pub invariant-loop-v : goal.invariant-loop-v
invariant-loop-v g l = (t : Work) (e : ℕ) → Won l.fn.session t e → HasApplied l.board.turns l.board.shards e l.fn.pass l.pass l.fn.session l.session

abbrev pub decreases-loop-v : goal.decreases-loop-v
decreases-loop-v g l = taken_in l.session.work
