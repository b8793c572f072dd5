use Rattle.store_commits.proofs.Committed.{works_lost}
use Rattle.graph_store.proofs.Heard.{heard_on}
use Rattle.graph_store.proofs.store.Store.abort.Goals as goal

pub give_up-requires-clause-lost : goal.give_up-requires-clause-lost
give_up-requires-clause-lost g c =
    works_lost c.args.session.now c.requires.works

pub invariant_of-pass : goal.invariant_of-pass
invariant_of-pass g c =
    let board = c.args.self.now.board in let pass = c.args.pass.now in let goes = c.give_up.ensures.goes in
    record { heard = heard_on board.turns board.shards goes.0 pass.seat c.give_up.new.pass c.args.session.now c.give_up.new.session goes.2 pass.told pass.heard }
