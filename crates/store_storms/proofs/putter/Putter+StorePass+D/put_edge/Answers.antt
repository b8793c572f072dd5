use Rattle.store_storms.proofs.Storms.{still_at, same_number}
use Rattle.store_storms.proofs.putter.«Putter+StorePass+D».put_edge.Goals as goal

pub returns : goal.returns
returns g c =
    let b = c.args.board.now in
    let goes = c.put_edge.ensures.goes.2 in
    record {
      at = still_at b.turns b.shards _ c.args.self.now.pass c.put_edge.new.pass c.args.self.now.session c.put_edge.new.session c.requires.at goes;
      same = same_number b.turns b.shards _ c.args.self.now.pass c.put_edge.new.pass c.args.self.now.session c.put_edge.new.session goes;
    }
