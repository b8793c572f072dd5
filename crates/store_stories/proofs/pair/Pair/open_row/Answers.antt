use Rattle.turn_board.specs.Board.{known}
use Rattle.graph_store.specs.NewSessions.{new_session}
use Rattle.store_stories.proofs.Pairs.{still_apart, same_self, same_goes}
use Rattle.store_stories.proofs.pair.Pair.open_row.Goals as goal

pub returns-then-is_new : goal.returns-then-is_new
returns-then-is_new g c =
    let p = c.args.self.now in
    let b = p.store.board in
    let goes = c.open_session.ensures.goes.2 in
    record {
      apart = still_apart b.turns b.shards p.first p.first p.second c.open_session.new.pass p.session c.open_session.result c.requires.apart c.requires.apart.at c.requires.apart.free.0 (same_self (known p.first.seat)) goes.stands
          c.open_session.ensures.rest.1 (same_goes b.turns b.shards _ p.second.seat c.open_session.new.pass.seat (new_session p.session.index) c.open_session.result goes);
    }
