use Rattle.std.proofs.Common.{ap}
use Rattle.core_states.specs.declared.event.Act.TheVariants as acts
use Rattle.core_states.specs.declared.event.CoreAnswer.TheVariants as answer
use Rattle.graph_model.specs.declared.change.Change.TheVariants.{Set}
use Rattle.store_sessions.specs.Changing.{done_says}
use Rattle.store_sessions.proofs.DoneBy.{set_done}
use Rattle.store_sessions.proofs.Tries.{nothing_done, told_as}
use Rattle.store_sessions.proofs.changes.set_vertex.Goals as goal

pub returns-in_default-clause-goes : goal.returns-in_default-clause-goes
returns-in_default-clause-goes g c = nothing_done c.args.board.now.turns c.args.board.now.shards done_says c.args.v (acts.Set c.args.v c.args.p.now) c.args.pass.now c.args.session.now c.requires.stands

pub returns-in-Ok-change-clause-goes : goal.returns-in-Ok-change-clause-goes
returns-in-Ok-change-clause-goes g c =
    told_as c.args.board.now.turns c.args.board.now.shards (Set c.args.v c.in-Ok.copy) (acts.Set c.args.v c.args.p.now) c.args.pass.now c.change.new.pass c.args.session.now c.change.new.session c.in-Ok-change._says (answer.Done) (ap (λ p. acts.Set c.args.v p) c.in-Ok.ensures)
    (set_done c.args.v c.in-Ok.copy c.in-Ok-change._says c.in-Ok-change.ensures.goes.1.0) c.in-Ok-change.ensures.goes
