use Rattle.store_stories.proofs.Desks.{still_at_desk}
use Rattle.store_stories.proofs.desk.Desk.close_row.Goals as goal

pub returns-then-is_idle : goal.returns-then-is_idle
returns-then-is_idle g c =
    record {
      at_desk = still_at_desk c.args.self.now.store.board.turns c.args.self.now.store.board.shards _ c.args.self.now.pass c.close_session.new.pass c.args.self.now.session c.close_session.new.session c.args.self.now.other c.requires.at_desk c.close_session.ensures.goes.2 c.close_session.ensures.rest.1;
    }
