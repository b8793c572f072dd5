use Rattle.turn_board.specs.Board.{known}
use Rattle.store_stories.proofs.Pairs.{still_apart, same_self, same_goes}
use Rattle.store_stories.proofs.pair.Pair.new_vertex.Goals as goal

pub returns : goal.returns
returns g c =
    let p = c.args.self.now in
    let b = p.store.board in
    let goes = c.new_vertex.ensures.goes.2 in
    record {
      apart = still_apart b.turns b.shards p.first p.first p.second c.new_vertex.new.pass p.session c.new_vertex.new.session c.requires.apart c.requires.apart.at c.requires.apart.free.0 (same_self (known p.first.seat)) goes.stands
          c.new_vertex.ensures.rest.1 (same_goes b.turns b.shards _ p.second.seat c.new_vertex.new.pass.seat p.session c.new_vertex.new.session goes);
    }
