use Rattle.std.proofs.Common.{refl}
use Rattle.request_text.specs.declared.request.Request.TheVariants as request
use Rattle.request_text.specs.declared.reply.Reply.TheVariants as reply
use Rattle.core_states.specs.declared.event.Act.TheVariants as acts
use Rattle.core_states.specs.declared.event.CoreAnswer.TheVariants as answer
use Rattle.store_sessions.specs.Changing.{done_says}
use Rattle.store_lines.proofs.Changed.{refused_ran, changed_ran, set_kind}
use Rattle.store_lines.proofs.changes.set_line.Goals as goal

pub returns-in-Ok : goal.returns-in-Ok
returns-in-Ok g c =
    changed_ran c.args.board.now.turns c.args.board.now.shards c.args.pass.now c.set_vertex.new.pass c.args.session.now c.set_vertex.new.session c.requires.inside done_says (request.Set c.args.v c.args.p.now) c.args.v (acts.Set c.args.v c.args.p.now) tt answer.Done reply.SetDone (refl) (λ x es m. m) refl (λ b. tt) c.in-Ok.ensures.goes c.in-Ok.ensures.session

pub returns-in-Err : goal.returns-in-Err
returns-in-Err g c =
    refused_ran c.args.board.now.turns c.args.board.now.shards c.args.pass.now c.set_vertex.new.pass c.args.session.now c.set_vertex.new.session c.requires.inside (request.Set c.args.v c.args.p.now) c.args.v (acts.Set c.args.v c.args.p.now) c.in-Err.refusal c.refused.result c.refused.ensures (λ x m es made. made) (set_kind c.args.v c.args.p.now c.in-Err.refusal) c.in-Err.ensures.goes c.in-Err.ensures.session
