use Rattle.std.proofs.Common.{refl, ap}
use Rattle.request_text.specs.declared.request.Request.TheVariants as request
use Rattle.request_text.specs.declared.reply.Reply.TheVariants as reply
use Rattle.core_states.specs.declared.event.Act.TheVariants as acts
use Rattle.core_states.specs.declared.event.CoreAnswer.TheVariants as answer
use Rattle.store_sessions.specs.Changing.{placed_says}
use Rattle.store_lines.proofs.Changed.{refused_ran, changed_ran, put_kind}
use Rattle.store_lines.proofs.changes.put_line.Goals as goal

pub returns-in-Ok-Added : goal.returns-in-Ok-Added
returns-in-Ok-Added g c =
    changed_ran c.args.board.now.turns c.args.board.now.shards c.args.pass.now c.put_edge.new.pass c.args.session.now c.put_edge.new.session c.requires.inside placed_says (request.Put c.args.v c.args.l c.args.d c.args.p.now) c.args.v (acts.Put c.args.v c.args.l c.args.d c.args.p.now) c.in-Ok-Added.field-0 answer.Added reply.Added (ap placed_says c.in-Ok-Added.field-0-is) (λ x es m. m) refl (λ b. tt) c.in-Ok-Added.ensures.goes c.in-Ok-Added.ensures.session

pub returns-in-Ok-Replaced : goal.returns-in-Ok-Replaced
returns-in-Ok-Replaced g c =
    changed_ran c.args.board.now.turns c.args.board.now.shards c.args.pass.now c.put_edge.new.pass c.args.session.now c.put_edge.new.session c.requires.inside placed_says (request.Put c.args.v c.args.l c.args.d c.args.p.now) c.args.v (acts.Put c.args.v c.args.l c.args.d c.args.p.now) c.in-Ok-Replaced.field-0 answer.Replaced reply.Replaced (ap placed_says c.in-Ok-Replaced.field-0-is) (λ x es m. m) refl (λ b. tt) c.in-Ok-Replaced.ensures.goes c.in-Ok-Replaced.ensures.session

pub returns-in-Err : goal.returns-in-Err
returns-in-Err g c =
    refused_ran c.args.board.now.turns c.args.board.now.shards c.args.pass.now c.put_edge.new.pass c.args.session.now c.put_edge.new.session c.requires.inside (request.Put c.args.v c.args.l c.args.d c.args.p.now) c.args.v (acts.Put c.args.v c.args.l c.args.d c.args.p.now) c.in-Err.refusal c.refused.result c.refused.ensures (λ x m es made. made) (put_kind c.args.v c.args.l c.args.d c.args.p.now c.in-Err.refusal) c.in-Err.ensures.goes c.in-Err.ensures.session
