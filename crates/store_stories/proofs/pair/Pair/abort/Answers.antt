use Rattle.turn_board.specs.Board.{known}
use Rattle.store_stories.proofs.Pairs.{still_apart, same_self, same_goes}
use Rattle.store_stories.proofs.pair.Pair.abort.Goals as goal

pub returns : goal.returns
returns g c =
    let p = c.args.self.now in
    let b = p.store.board in
    let goes = c.abort.ensures.goes.2 in
    record {
      apart = still_apart b.turns b.shards p.first p.first p.second c.abort.new.pass p.session c.abort.new.session c.requires.apart c.requires.apart.at c.requires.apart.free.0 (same_self (known p.first.seat)) goes.stands
          c.abort.ensures.rest.1 (same_goes b.turns b.shards _ p.second.seat c.abort.new.pass.seat p.session c.abort.new.session goes);
    }
