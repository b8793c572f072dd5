use Rattle.store_storms.proofs.Storms.{still_at, same_number}
use Rattle.store_storms.proofs.putter.«Putter+StorePass+D».close_row.Goals as goal

pub returns-then-is_idle : goal.returns-then-is_idle
returns-then-is_idle g c =
    let b = c.args.board.now in
    let goes = c.close_session.ensures.goes.2 in
    record {
      at = still_at b.turns b.shards _ c.args.self.now.pass c.close_session.new.pass c.args.self.now.session c.close_session.new.session c.requires.at goes;
      same = same_number b.turns b.shards _ c.args.self.now.pass c.close_session.new.pass c.args.self.now.session c.close_session.new.session goes;
    }
