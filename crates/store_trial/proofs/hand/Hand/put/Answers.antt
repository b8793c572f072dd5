use Rattle.store_trial.proofs.Hands.{goes_on}
use Rattle.store_trial.proofs.hand.Hand.put.Goals as goal

pub returns : goal.returns
returns g c =
    record {
      goes_on = goes_on c.args.board.now.turns c.args.board.now.shards _ c.args.self.now.pass c.put_edge.new.pass c.args.self.now.session c.put_edge.new.session c.requires.ready c.put_edge.ensures.goes.2;
    }
