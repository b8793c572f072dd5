use Rattle.turn_board.specs.Board.{known}
use Rattle.graph_store.proofs.Heard.{heard_on, read_seen, read_newest}
use Rattle.graph_store.proofs.store.Store.begin.Goals as goal

pub invariant_of-pass : goal.invariant_of-pass
invariant_of-pass g c =
    let board = c.args.self.now.board in let pass = c.args.pass.now in let call = c.begin-begun in let goes = call.ensures.goes in
    record { heard = heard_on board.turns board.shards goes.0 pass.seat call.new.pass c.args.session.now call.new.session goes.2 pass.told pass.heard }

pub hear-requires : goal.hear-requires
hear-requires g c =
    let call = c.begin-begun in
    record { seen = read_seen call.result (known c.args.pass.now.seat) (known call.new.pass) call.ensures.newest c.read_in.result c.read_in.ensures }

pub returns-clause-newest : goal.returns-clause-newest
returns-clause-newest g c =
    let pass = c.args.pass.now in let call = c.begin-begun in
    read_newest call.result (known pass.seat) (known call.new.pass) call.ensures.newest pass.told pass.heard
