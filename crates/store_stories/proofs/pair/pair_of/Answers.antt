use Rattle.std.proofs.Common.{ap}
use Rattle.store_stories.proofs.Pairs.{comes_apart}
use Rattle.store_stories.proofs.pair.pair_of.Goals as goal

pub returns : goal.returns
returns g c =
    let b = c.args.desk.store.board in
    let said = c.split_pass-second.ensures in
    record {
      apart = comes_apart b.turns b.shards c.args.desk.pass c.split_pass-second.new.pass c.split_pass-second.result c.args.desk.session c.args.desk.other c.new.result c.requires.at_desk said.stands (ap (λ m. m.0) said.left) (ap (λ m. m.0) said.right)
          said.rest.1 said.told.1 c.new.ensures;
    }
