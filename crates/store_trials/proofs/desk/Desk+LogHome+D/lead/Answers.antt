use Rattle.store_trials.proofs.Works.{still_at_desk}
use Rattle.store_trials.proofs.desk.Desk+LogHome+D.lead.Goals as goal

pub returns-clause-at_desk : goal.returns-clause-at_desk
returns-clause-at_desk g c =
    still_at_desk c.args.self.now.board.turns c.args.self.now.board.shards c.lead.ensures.led.0 c.args.self.now.pass c.lead.new.pass c.args.self.now.session c.lead.new.session c.requires.at_desk c.lead.ensures.led.2
