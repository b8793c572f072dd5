use Rattle.store_commits.specs.Committing.{HasAsked}
use Rattle.store_commits.proofs.seeing.see_epoch.Given as goal

-- nothing but questions
abbrev pub invariant-loop : goal.invariant-loop
invariant-loop g l = HasAsked l.board.turns l.board.shards l.fn.pass l.pass l.fn.session l.session
