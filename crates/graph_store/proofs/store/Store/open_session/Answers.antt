use Rattle.graph_store.proofs.Heard.{heard_on}
use Rattle.graph_store.proofs.store.Store.open_session.Goals as goal

pub invariant_of-pass : goal.invariant_of-pass
invariant_of-pass g c =
    let board = c.args.self.now.board in let pass = c.args.pass.now in let goes = c.open_session.ensures.goes in
    record { heard = heard_on board.turns board.shards goes.0 pass.seat c.open_session.new.pass c.new-session.result c.open_session.new.session goes.2 pass.told pass.heard }
