use Rattle.std.proofs.Common.{refl, ap}
use Rattle.request_text.specs.declared.request.Request.TheVariants as request
use Rattle.request_text.specs.declared.reply.Reply.TheVariants as reply
use Rattle.core_states.specs.declared.event.Act.TheVariants as acts
use Rattle.core_states.specs.declared.event.CoreAnswer.TheVariants as answer
use Rattle.store_sessions.specs.Changing.{taken_says}
use Rattle.store_lines.proofs.Changed.{refused_ran, changed_ran, del_kind}
use Rattle.store_lines.proofs.changes.del_line.Goals as goal

pub returns-in-Ok-Gone : goal.returns-in-Ok-Gone
returns-in-Ok-Gone g c =
    changed_ran c.args.board.now.turns c.args.board.now.shards c.args.pass.now c.del_edge.new.pass c.args.session.now c.del_edge.new.session c.requires.inside taken_says (request.Del c.args.v c.args.l c.args.d) c.args.v (acts.Del c.args.v c.args.l c.args.d) c.in-Ok-Gone.field-0 answer.Gone reply.Gone (ap taken_says c.in-Ok-Gone.field-0-is) (λ x es m. m) refl (λ b. tt) c.in-Ok-Gone.ensures.goes c.in-Ok-Gone.ensures.session

pub returns-in-Ok-Absent : goal.returns-in-Ok-Absent
returns-in-Ok-Absent g c =
    changed_ran c.args.board.now.turns c.args.board.now.shards c.args.pass.now c.del_edge.new.pass c.args.session.now c.del_edge.new.session c.requires.inside taken_says (request.Del c.args.v c.args.l c.args.d) c.args.v (acts.Del c.args.v c.args.l c.args.d) c.in-Ok-Absent.field-0 answer.Absent reply.Absent (ap taken_says c.in-Ok-Absent.field-0-is) (λ x es m. m) refl (λ b. tt) c.in-Ok-Absent.ensures.goes c.in-Ok-Absent.ensures.session

pub returns-in-Err : goal.returns-in-Err
returns-in-Err g c =
    refused_ran c.args.board.now.turns c.args.board.now.shards c.args.pass.now c.del_edge.new.pass c.args.session.now c.del_edge.new.session c.requires.inside (request.Del c.args.v c.args.l c.args.d) c.args.v (acts.Del c.args.v c.args.l c.args.d) c.in-Err.refusal c.refused.result c.refused.ensures (λ x m es made. made) (del_kind c.args.v c.args.l c.args.d c.in-Err.refusal) c.in-Err.ensures.goes c.in-Err.ensures.session
