use Rattle.std.proofs.Common.{sym, ◌∙◌, subst, Some}
use Rattle.store_sessions.specs.Changing.{ChangeLeaves}
use Rattle.store_sessions.proofs.Tries.{may_leave, works_on, changed_stays, tried_conflict, tried_else, Tries}
use Rattle.store_sessions.specs.declared.changing.Tried.TheVariants as tried
use Rattle.store_sessions.proofs.changing.try_change.Goals as goal

pub returns-in_default-clause-session : goal.returns-in_default-clause-session
returns-in_default-clause-session g c = works_on c.args.session.now c.by_shard.new.session c.requires.works c.by_shard.ensures.leaves.0

pub give_up-requires-clause-lost : goal.give_up-requires-clause-lost
give_up-requires-clause-lost g c =
    let at = works_on c.args.session.now c.by_shard.new.session c.requires.works c.by_shard.ensures.leaves.0 in
    may_leave c.by_shard.new.session at.after at.works

pub returns-in-Held-clause-session : goal.returns-in-Held-clause-session
returns-in-Held-clause-session g c = works_on c.args.session.now c.by_shard.new.session c.requires.works c.by_shard.ensures.leaves.0

pub returns-in-Conflict-clause-goes : goal.returns-in-Conflict-clause-goes
returns-in-Conflict-clause-goes g c =
    tried_conflict c.args.board.now.turns c.args.board.now.shards c.args.change.now c.args.pass.now c.by_shard.new.pass c.args.session.now c.by_shard.new.session c.by_shard.result c.by_shard.ensures.goes
    c.vertex.result c.in-Conflict.committed c.read_of-read.result c.give_up.new.pass c.give_up.new.session c.vertex.ensures (c.in-Some.is ∙ (λ i. Some (c.in-Conflict.is i))) c.give_up.ensures.goes

pub returns-in_default-says : goal.returns-in_default-says
returns-in_default-says g c =
    let at = works_on c.args.session.now c.by_shard.new.session c.requires.works c.by_shard.ensures.leaves.0 in record {
      goes = subst (λ end. Tries c.args.board.now.turns c.args.board.now.shards c.args.change.now (tried.Ends end) c.args.pass.now c.by_shard.new.pass c.args.session.now c.by_shard.new.session) (sym c.changed.ensures)
          (tried_else c.args.board.now.turns c.args.board.now.shards c.args.change.now c.args.pass.now c.by_shard.new.pass c.args.session.now c.by_shard.new.session c.by_shard.result c.by_shard.ensures.goes
          c.in-Some.says c.in-Some.is c.in_default-says.not-Held c.in_default-says.not-Conflict c.by_shard.ensures.leaves.1);
      session = subst (λ end. ChangeLeaves end c.args.session.now c.by_shard.new.session) (sym c.changed.ensures) (changed_stays c.in-Some.says c.args.session.now c.by_shard.new.session at);
    }
