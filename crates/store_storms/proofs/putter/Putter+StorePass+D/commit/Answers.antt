use Rattle.store_storms.proofs.Storms.{still_at, same_number}
use Rattle.store_storms.proofs.putter.«Putter+StorePass+D».commit.Goals as goal

pub returns : goal.returns
returns g c =
    let b = c.args.board.now in
    let goes = c.commit.ensures.goes.2 in
    record {
      at = still_at b.turns b.shards _ c.args.self.now.pass c.commit.new.pass c.args.self.now.session c.commit.new.session c.requires.at goes;
      same = same_number b.turns b.shards _ c.args.self.now.pass c.commit.new.pass c.args.self.now.session c.commit.new.session goes;
    }
