use Rattle.store_storms.proofs.Storms.{still_at, same_number}
use Rattle.store_storms.proofs.putter.«Putter+StorePass+D».open_row.Goals as goal

pub returns-then-not-self : goal.returns-then-not-self
returns-then-not-self g c =
    let b = c.args.board.now in
    let goes = c.open_session.ensures.goes.2 in
    record {
      at = still_at b.turns b.shards _ c.args.self.now.pass c.open_session.new.pass c.args.self.now.session c.open_session.new.session c.requires.at goes;
      same = same_number b.turns b.shards _ c.args.self.now.pass c.open_session.new.pass c.args.self.now.session c.open_session.new.session goes;
    }
