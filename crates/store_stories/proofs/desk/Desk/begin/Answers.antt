use Rattle.store_stories.proofs.Desks.{still_at_desk}
use Rattle.store_stories.proofs.desk.Desk.begin.Goals as goal

pub returns : goal.returns
returns g c =
    record {
      at_desk = still_at_desk c.args.self.now.store.board.turns c.args.self.now.store.board.shards _ c.args.self.now.pass c.begin.new.pass c.args.self.now.session c.begin.new.session c.args.self.now.other c.requires.at_desk c.begin.ensures.goes.2 c.begin.ensures.told.1;
    }
