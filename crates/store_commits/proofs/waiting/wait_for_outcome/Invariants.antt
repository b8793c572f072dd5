use Rattle.store_commits.specs.Committing.{HasWaited}
use Rattle.store_commits.proofs.waiting.wait_for_outcome.Given as goal

-- the record waits still
abbrev pub invariant-loop : goal.invariant-loop
invariant-loop g l = HasWaited l.board.turns l.board.shards l.fn.pass l.pass l.fn.session l.session
