use Rattle.store_stories.proofs.Desks.{still_at_desk}
use Rattle.store_stories.proofs.desk.Desk.new_vertex.Goals as goal

pub returns : goal.returns
returns g c =
    record {
      at_desk = still_at_desk c.args.self.now.store.board.turns c.args.self.now.store.board.shards _ c.args.self.now.pass c.new_vertex.new.pass c.args.self.now.session c.new_vertex.new.session c.args.self.now.other c.requires.at_desk c.new_vertex.ensures.goes.2 c.new_vertex.ensures.rest.1;
    }
