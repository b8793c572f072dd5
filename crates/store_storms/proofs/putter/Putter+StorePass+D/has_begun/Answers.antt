use Rattle.store_storms.proofs.Storms.{still_at, same_number}
use Rattle.store_storms.proofs.putter.«Putter+StorePass+D».has_begun.Goals as goal

pub returns : goal.returns
returns g c =
    let b = c.args.board.now in
    let goes = c.begin.ensures.goes.2 in
    record {
      at = still_at b.turns b.shards _ c.args.self.now.pass c.begin.new.pass c.args.self.now.session c.begin.new.session c.requires.at goes;
      same = same_number b.turns b.shards _ c.args.self.now.pass c.begin.new.pass c.args.self.now.session c.begin.new.session goes;
    }
