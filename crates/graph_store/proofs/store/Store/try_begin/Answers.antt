use Rattle.turn_board.specs.Board.{known}
use Rattle.store_tries.proofs.Answered.{try_sees, seen_tried}
use Rattle.graph_store.proofs.Heard.{read_seen, read_newest}
use Rattle.graph_store.proofs.store.Store.try_begin.Goals as goal

pub invariant_of-pass : goal.invariant_of-pass
invariant_of-pass g c =
    let board = c.args.self.now.board in let pass = c.args.pass.now in let call = c.try_begin-tried in
    record { heard = seen_tried board.turns board.shards call.result pass.seat call.new.pass c.args.session.now call.new.session call.ensures pass.told pass.heard }

pub hear-requires : goal.hear-requires
hear-requires g c =
    let board = c.args.self.now.board in let pass = c.args.pass.now in let call = c.try_begin-tried in
    let sees = try_sees board.turns board.shards call.result pass.seat call.new.pass c.args.session.now call.new.session call.ensures in
    record { seen = read_seen call.result (known pass.seat) (known call.new.pass) sees c.read_in.result c.read_in.ensures }

pub returns-clause-newest : goal.returns-clause-newest
returns-clause-newest g c =
    let board = c.args.self.now.board in let pass = c.args.pass.now in let call = c.try_begin-tried in
    let sees = try_sees board.turns board.shards call.result pass.seat call.new.pass c.args.session.now call.new.session call.ensures in
    read_newest call.result (known pass.seat) (known call.new.pass) sees pass.told pass.heard
