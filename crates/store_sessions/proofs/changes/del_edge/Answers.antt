use Rattle.std.proofs.Common.{refl}
use Rattle.core_states.specs.declared.event.Act.TheVariants as acts
use Rattle.graph_model.specs.declared.change.Change.TheVariants.{Del}
use Rattle.store_sessions.specs.Changing.{taken_says}
use Rattle.store_sessions.proofs.Tries.{told_as}
use Rattle.store_sessions.proofs.changes.del_edge.Goals as goal

pub returns-in-Ok-clause-goes : goal.returns-in-Ok-clause-goes
returns-in-Ok-clause-goes g c =
    told_as c.args.board.now.turns c.args.board.now.shards (Del c.args.v c.args.l c.args.d) (acts.Del c.args.v c.args.l c.args.d) c.args.pass.now c.change.new.pass c.args.session.now c.change.new.session c.in-Ok.says (taken_says c.taken.result) (refl)
    (c.taken.ensures) c.in-Ok.ensures.goes
