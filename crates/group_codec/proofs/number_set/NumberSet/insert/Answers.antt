use Rattle.std.specs.Prelude.{unwrap_or}
use Rattle.std.specs.Ordering.{nat_cmp}
use Rattle.std.specs.BTreeMap.{get}
use Rattle.group_codec.specs.NumberSets.{word_at}
use Rattle.group_codec.proofs.Words.{word-with}
use Rattle.group_codec.proofs.number_set.NumberSet.insert.Goals as goal

pub returns-clause-added : goal.returns-clause-added
returns-clause-added c m =
    let set = c.turn_to.new.self in
    word-with (word_at c.args.self.now) (λ b. unwrap_or (get nat_cmp set.words b) 0) set.block set.word c.args.n c.in_ok-turn_to.ensures.out c.in_ok-turn_to.ensures.same m
