use Rattle.std.proofs.Common.{refl}
use Rattle.core_states.specs.declared.event.Act.TheVariants as acts
use Rattle.core_states.specs.declared.event.CoreAnswer.TheVariants as answer
use Rattle.graph_model.specs.declared.change.Change.TheVariants.{Drop}
use Rattle.store_sessions.proofs.DoneBy.{drop_done}
use Rattle.store_sessions.proofs.Tries.{told_as}
use Rattle.store_sessions.proofs.changes.drop_vertex.Goals as goal

pub returns-in-Ok-clause-goes : goal.returns-in-Ok-clause-goes
returns-in-Ok-clause-goes g c =
    told_as c.args.board.now.turns c.args.board.now.shards (Drop c.args.v) (acts.Drop c.args.v) c.args.pass.now c.change.new.pass c.args.session.now c.change.new.session c.in-Ok._says (answer.Done) (refl)
    (drop_done c.args.v c.in-Ok._says c.in-Ok.ensures.goes.1.0) c.in-Ok.ensures.goes
