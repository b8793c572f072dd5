use Rattle.std.proofs.Common.{refl}
use Rattle.request_text.specs.declared.request.Request.TheVariants as request
use Rattle.request_text.specs.declared.reply.Reply.TheVariants as reply
use Rattle.core_states.specs.declared.event.Act.TheVariants as acts
use Rattle.core_states.specs.declared.event.CoreAnswer.TheVariants as answer
use Rattle.store_sessions.specs.Changing.{done_says}
use Rattle.store_lines.proofs.Changed.{refused_ran, changed_ran, drop_kind}
use Rattle.store_lines.proofs.changes.drop_line.Goals as goal

pub returns-in-Ok : goal.returns-in-Ok
returns-in-Ok g c =
    changed_ran c.args.board.now.turns c.args.board.now.shards c.args.pass.now c.drop_vertex.new.pass c.args.session.now c.drop_vertex.new.session c.requires.inside done_says (request.Drop c.args.v) c.args.v (acts.Drop c.args.v) tt answer.Done reply.Dropped (refl) (λ x es m. m) refl (λ b. tt) c.in-Ok.ensures.goes c.in-Ok.ensures.session

pub returns-in-Err : goal.returns-in-Err
returns-in-Err g c =
    refused_ran c.args.board.now.turns c.args.board.now.shards c.args.pass.now c.drop_vertex.new.pass c.args.session.now c.drop_vertex.new.session c.requires.inside (request.Drop c.args.v) c.args.v (acts.Drop c.args.v) c.in-Err.refusal c.refused.result c.refused.ensures (λ x m es made. made) (drop_kind c.args.v c.in-Err.refusal) c.in-Err.ensures.goes c.in-Err.ensures.session
