use Rattle.store_trial.proofs.Hands.{goes_on}
use Rattle.store_trial.proofs.hand.Hand.open_row.Goals as goal

pub returns-then-not-self : goal.returns-then-not-self
returns-then-not-self g c =
    record {
      goes_on = goes_on c.args.board.now.turns c.args.board.now.shards _ c.args.self.now.pass c.open_session.new.pass c.args.self.now.session c.open_session.new.session c.requires.ready c.open_session.ensures.goes.2;
    }
