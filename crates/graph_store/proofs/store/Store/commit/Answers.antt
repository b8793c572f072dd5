use Rattle.turn_board.specs.Board.{known}
use Rattle.graph_store.proofs.Heard.{heard_on, committed_seen}
use Rattle.graph_store.proofs.store.Store.commit.Goals as goal

pub invariant_of-pass : goal.invariant_of-pass
invariant_of-pass g c =
    let board = c.args.self.now.board in let pass = c.args.pass.now in let call = c.commit-ended in let goes = call.ensures.goes in
    record { heard = heard_on board.turns board.shards goes.0 pass.seat call.new.pass c.args.session.now call.new.session goes.2 pass.told pass.heard }

pub hear-requires : goal.hear-requires
hear-requires g c =
    let call = c.commit-ended in
    record { seen = committed_seen call.result (known call.new.pass) call.ensures.seen c.committed_in.result c.committed_in.ensures }
