use Rattle.turn_board.specs.Board.{known}
use Rattle.store_stories.proofs.Pairs.{still_apart, same_self, tried_stands}
use Rattle.store_stories.proofs.pair.Pair.try_begin.Goals as goal

pub returns : goal.returns
returns g c =
    let p = c.args.self.now in
    let b = p.store.board in
    let tried = tried_stands b.turns b.shards p.second.seat c.try_begin.new.pass.seat p.session c.try_begin.new.session c.try_begin.result c.try_begin.ensures.goes in
    record {
      apart = still_apart b.turns b.shards p.first p.first p.second c.try_begin.new.pass p.session c.try_begin.new.session c.requires.apart c.requires.apart.at c.requires.apart.free.0 (same_self (known p.first.seat)) tried.0
          c.try_begin.ensures.told.1 tried.1;
    }
