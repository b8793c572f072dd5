use Rattle.std.proofs.Common.{ap}
use Rattle.core_states.specs.declared.event.Act.TheVariants as acts
use Rattle.graph_model.specs.declared.change.Change.TheVariants.{Put}
use Rattle.store_sessions.specs.Changing.{placed_says}
use Rattle.store_sessions.proofs.Tries.{nothing_done, told_as}
use Rattle.store_sessions.proofs.changes.put_edge.Goals as goal

pub returns-in_default-clause-goes : goal.returns-in_default-clause-goes
returns-in_default-clause-goes g c = nothing_done c.args.board.now.turns c.args.board.now.shards placed_says c.args.v (acts.Put c.args.v c.args.l c.args.d c.args.p.now) c.args.pass.now c.args.session.now c.requires.stands

pub returns-in-Ok-change-clause-goes : goal.returns-in-Ok-change-clause-goes
returns-in-Ok-change-clause-goes g c =
    told_as c.args.board.now.turns c.args.board.now.shards (Put c.args.v c.args.l c.args.d c.in-Ok.copy) (acts.Put c.args.v c.args.l c.args.d c.args.p.now) c.args.pass.now c.change.new.pass c.args.session.now c.change.new.session c.in-Ok-change.says (placed_says c.placed.result) (ap (λ p. acts.Put c.args.v c.args.l c.args.d p) c.in-Ok.ensures)
    (c.placed.ensures) c.in-Ok-change.ensures.goes
