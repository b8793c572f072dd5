use Rattle.store_trial.proofs.Hands.{goes_on}
use Rattle.store_trial.proofs.hand.Hand.close_row.Goals as goal

pub returns-then-is_idle : goal.returns-then-is_idle
returns-then-is_idle g c =
    record {
      goes_on = goes_on c.args.board.now.turns c.args.board.now.shards _ c.args.self.now.pass c.close_session.new.pass c.args.self.now.session c.close_session.new.session c.requires.ready c.close_session.ensures.goes.2;
    }
