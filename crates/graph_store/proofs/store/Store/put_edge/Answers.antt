use Rattle.graph_store.proofs.Heard.{heard_on}
use Rattle.graph_store.proofs.store.Store.put_edge.Goals as goal

pub invariant_of-pass : goal.invariant_of-pass
invariant_of-pass g c =
    let board = c.args.self.now.board in let pass = c.args.pass.now in let goes = c.put_edge.ensures.goes in
    record { heard = heard_on board.turns board.shards goes.0 pass.seat c.put_edge.new.pass c.args.session.now c.put_edge.new.session goes.2 pass.told pass.heard }
