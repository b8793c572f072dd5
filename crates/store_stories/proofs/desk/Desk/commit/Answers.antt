use Rattle.store_stories.proofs.Desks.{still_at_desk}
use Rattle.store_stories.proofs.desk.Desk.commit.Goals as goal

pub returns : goal.returns
returns g c =
    record {
      at_desk = still_at_desk c.args.self.now.store.board.turns c.args.self.now.store.board.shards _ c.args.self.now.pass c.commit.new.pass c.args.self.now.session c.commit.new.session c.args.self.now.other c.requires.at_desk c.commit.ensures.goes.2 c.commit.ensures.told.1;
    }
