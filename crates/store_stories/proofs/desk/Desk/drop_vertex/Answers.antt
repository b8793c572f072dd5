use Rattle.store_stories.proofs.Desks.{still_at_desk}
use Rattle.store_stories.proofs.desk.Desk.drop_vertex.Goals as goal

pub returns : goal.returns
returns g c =
    record {
      at_desk = still_at_desk c.args.self.now.store.board.turns c.args.self.now.store.board.shards _ c.args.self.now.pass c.drop_vertex.new.pass c.args.self.now.session c.drop_vertex.new.session c.args.self.now.other c.requires.at_desk c.drop_vertex.ensures.goes.2 c.drop_vertex.ensures.rest.1;
    }
