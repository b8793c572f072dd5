use Rattle.std.proofs.Common.{◌∙◌, ap}
use Rattle.store_stories.proofs.Pairs.{comes_anew}
use Rattle.store_stories.proofs.pair.Pair.renewed.Goals as goal

pub returns : goal.returns
returns g c =
    let p = c.args.self in
    let b = p.store.board in
    let split = c.split_pass-third in
    let join = c.join_pass in
    record {
      apart = comes_anew b.turns b.shards p.first p.second split.result split.new.pass join.new.into p.session c.new.result c.requires.apart join.ensures.stands split.ensures.stands.1
          (ap (λ m. m.0) split.ensures.left) (ap (λ m. m.0) split.ensures.right) (ap (λ m. m.0) join.ensures.both) (join.ensures.told.1 ∙ split.ensures.rest.1) split.ensures.told.1 c.new.ensures;
    }
