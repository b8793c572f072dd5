use Rattle.std.proofs.Common.{subst, ap, ◌∙◌, false, Some, None}
use Rattle.graph_model.specs.declared.record.Outcome.TheVariants.{Committed}
use Rattle.store_turns.specs.declared.session.Session.{Session}
use Rattle.store_commits.specs.Committing.{HasNoChange}
use Rattle.store_commits.proofs.Committed.{works_lost, queued_waits, learnt_won, learnt_epoch, learnt_lost, learnt_rest, commits, fails}
use Rattle.store_commits.proofs.committing.commit.Goals as goal
use Rattle.store_commits.proofs.committing.commit.Goals.{After-wait_for_outcome-arg-2-1}
use Rattle.store_commits.proofs.committing.commit.Given.{Over}

pub give_up-requires-clause-lost : goal.give_up-requires-clause-lost
give_up-requires-clause-lost g c = works_lost c.args.session.now c.requires.works

-- the transaction has changed something
some : (g : Over) (c : After-wait_for_outcome-arg-2-1 g) → HasNoChange c.args.session.now false
some g c = subst (λ b. HasNoChange c.args.session.now b) c.if-is_empty.false c.is_empty.ensures

pub wait_for_outcome-requires-clause-waits : goal.wait_for_outcome-requires-clause-waits
wait_for_outcome-requires-clause-waits g c = queued_waits c.args.session.now c.by_clock.new.session c.requires.works (some g c) c.by_clock.result c.by_clock.ensures.leaves

pub apply_all-requires-clause-won : goal.apply_all-requires-clause-won
apply_all-requires-clause-won g c = learnt_won c.by_clock.new.session c.wait_for_outcome.new.session c.in-Committed.epoch c.in-Committed.ensures.known

pub finish-requires-clause-won : goal.finish-requires-clause-won
finish-requires-clause-won g c =
    let epoch = c.in-Committed.epoch in
    let won = learnt_epoch c.by_clock.new.session c.wait_for_outcome.new.session epoch c.in-Committed.ensures.known in
    let still = c.apply_all.ensures.won won.0 epoch won.1 in (still.0, epoch, still.1, still.2)

pub give_up-requires-in-Failed-clause-lost : goal.give_up-requires-in-Failed-clause-lost
give_up-requires-in-Failed-clause-lost g c = learnt_lost c.by_clock.new.session c.wait_for_outcome.new.session c.in-Failed.before c.in-Failed.after c.in-Failed.ensures.known

pub returns-in-Committed-clause-goes : goal.returns-in-Committed-clause-goes
returns-in-Committed-clause-goes g c =
    commits c.args.board.now.turns c.args.board.now.shards c.args.pass.now c.by_clock.new.pass c.wait_for_outcome.new.pass c.args.session.now c.by_clock.new.session c.wait_for_outcome.new.session c.requires.works
    (subst (λ b. HasNoChange c.args.session.now b) c.if-is_empty.false c.is_empty.ensures) c.by_clock.result c.by_clock.ensures.leaves c.by_clock.ensures.goes c.wait_for_outcome.ensures.goes
    c.apply_all.new.pass c.finish.new.pass c.apply_all.new.session c.finish.new.session c.apply_all.ensures.goes c.finish.ensures.goes

pub returns-in-Committed-clause-ends : goal.returns-in-Committed-clause-ends
returns-in-Committed-clause-ends g c =
    let epoch = c.in-Committed.epoch in
    let won = learnt_epoch c.by_clock.new.session c.wait_for_outcome.new.session epoch c.in-Committed.ensures.known in
    let still = c.apply_all.ensures.won won.0 epoch won.1 in
    let rest = learnt_rest c.args.board.now.turns c.args.board.now.shards c.args.pass.now c.by_clock.new.pass c.wait_for_outcome.new.pass c.args.session.now c.by_clock.new.session c.wait_for_outcome.new.session c.requires.works
    (subst (λ b. HasNoChange c.args.session.now b) c.if-is_empty.false c.is_empty.ensures) c.by_clock.result c.by_clock.ensures.leaves c.by_clock.ensures.goes c.wait_for_outcome.ensures.goes (Committed epoch) c.in-Committed.ensures.known in
    c.finish.ensures.done still.0 epoch still.1 ∙ ap (λ (z : Session). record z { finished = Some epoch; work = None }) (still.3 ∙ ap (λ (z : Session). record z { work = Some still.0 }) rest)

pub returns-in-Committed-clause-seen : goal.returns-in-Committed-clause-seen
returns-in-Committed-clause-seen g c =
    let epoch = c.in-Committed.epoch in
    let won = learnt_epoch c.by_clock.new.session c.wait_for_outcome.new.session epoch c.in-Committed.ensures.known in
    let still = c.apply_all.ensures.won won.0 epoch won.1 in
    c.finish.ensures.seen still.0 epoch still.1

pub returns-in-Failed-clause-goes : goal.returns-in-Failed-clause-goes
returns-in-Failed-clause-goes g c =
    fails c.args.board.now.turns c.args.board.now.shards c.args.pass.now c.by_clock.new.pass c.wait_for_outcome.new.pass c.args.session.now c.by_clock.new.session c.wait_for_outcome.new.session c.requires.works
    (subst (λ b. HasNoChange c.args.session.now b) c.if-is_empty.false c.is_empty.ensures) c.by_clock.result c.by_clock.ensures.leaves c.by_clock.ensures.goes c.wait_for_outcome.ensures.goes
    c.give_up-in-Failed.new.pass c.give_up-in-Failed.new.session c.give_up-in-Failed.ensures.goes
