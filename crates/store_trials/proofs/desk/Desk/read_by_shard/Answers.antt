use Rattle.store_trials.proofs.Works.{still_at_desk}
use Rattle.store_trials.proofs.desk.Desk.read_by_shard.Goals as goal

pub returns-clause-at_desk : goal.returns-clause-at_desk
returns-clause-at_desk g c =
    still_at_desk c.args.self.now.board.turns c.args.self.now.board.shards _ c.args.self.now.pass c.read_by_shard.new.pass c.args.self.now.session c.args.self.now.session c.requires.at_desk c.read_by_shard.ensures.goes
