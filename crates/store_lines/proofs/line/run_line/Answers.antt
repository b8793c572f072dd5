use Rattle.std.proofs.Common.{refl, sym, ◌∙◌}
use Rattle.store_lines.proofs.Answered.{ready_inside, ready_outside, inside_line, outside_line}
use Rattle.store_lines.proofs.line.run_line.Goals as goal

pub run_inside-requires-clause-inside : goal.run_inside-requires-clause-inside
run_inside-requires-clause-inside g c =
    ready_inside c.args.session.now c.args.session.now.work refl (sym c.is_some.ensures ∙ c.if-is_some.true) c.requires.ready

pub run_outside-requires-clause-outside : goal.run_outside-requires-clause-outside
run_outside-requires-clause-outside g c =
    ready_outside c.args.session.now c.args.session.now.work refl (sym c.is_some.ensures ∙ c.if-is_some.false) c.requires.ready

pub returns-then-is_some : goal.returns-then-is_some
returns-then-is_some g c =
    inside_line c.args.board.now.turns c.args.board.now.shards c.args.pass.now c.args.session.now c.requires.stands c.args.request.now c.run_inside.result c.run_inside.new.pass c.run_inside.new.session (ready_inside c.args.session.now c.args.session.now.work refl (sym c.is_some.ensures ∙ c.if-is_some.true) c.requires.ready) c.run_inside.ensures

pub returns-else-is_some : goal.returns-else-is_some
returns-else-is_some g c =
    outside_line c.args.board.now.turns c.args.board.now.shards c.args.pass.now c.args.session.now c.requires.stands c.args.request.now c.run_outside.result c.run_outside.new.pass c.run_outside.new.session (ready_outside c.args.session.now c.args.session.now.work refl (sym c.is_some.ensures ∙ c.if-is_some.false) c.requires.ready) c.run_outside.ensures
