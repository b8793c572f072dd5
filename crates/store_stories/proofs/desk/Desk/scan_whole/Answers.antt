use Rattle.store_stories.proofs.Desks.{still_at_desk}
use Rattle.store_stories.proofs.desk.Desk.scan_whole.Goals as goal

pub returns : goal.returns
returns g c =
    record {
      at_desk = still_at_desk c.args.self.now.store.board.turns c.args.self.now.store.board.shards _ c.args.self.now.pass c.scan_whole.new.pass c.args.self.now.session c.args.self.now.session c.args.self.now.other c.requires.at_desk c.scan_whole.ensures.goes.2 c.scan_whole.ensures.rest.1;
    }
