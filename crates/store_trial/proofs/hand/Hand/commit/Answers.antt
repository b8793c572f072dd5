use Rattle.store_trial.proofs.Hands.{goes_on}
use Rattle.store_trial.proofs.hand.Hand.commit.Goals as goal

pub returns : goal.returns
returns g c =
    record {
      goes_on = goes_on c.args.board.now.turns c.args.board.now.shards _ c.args.self.now.pass c.commit.new.pass c.args.self.now.session c.commit.new.session c.requires.ready c.commit.ensures.goes.2;
    }
