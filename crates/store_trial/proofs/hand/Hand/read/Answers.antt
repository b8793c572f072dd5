use Rattle.store_trial.proofs.Hands.{goes_on}
use Rattle.store_trial.proofs.hand.Hand.read.Goals as goal

pub returns : goal.returns
returns g c =
    record {
      goes_on = goes_on c.args.board.now.turns c.args.board.now.shards _ c.args.self.now.pass c.read.new.pass c.args.self.now.session c.args.self.now.session c.requires.ready c.read.ensures.goes.2;
    }
