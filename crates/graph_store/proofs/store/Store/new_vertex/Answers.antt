use Rattle.graph_store.proofs.Heard.{heard_on}
use Rattle.graph_store.proofs.store.Store.new_vertex.Goals as goal

pub invariant_of-pass : goal.invariant_of-pass
invariant_of-pass g c =
    let board = c.args.self.now.board in let pass = c.args.pass.now in let goes = c.new_vertex.ensures.goes in
    record { heard = heard_on board.turns board.shards goes.0 pass.seat c.new_vertex.new.pass c.args.session.now c.new_vertex.new.session goes.2 pass.told pass.heard }
