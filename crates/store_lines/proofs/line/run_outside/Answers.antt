use Rattle.std.proofs.Common.{sym, subst}
use Rattle.request_text.specs.declared.reply.Reply.TheVariants as reply
use Rattle.store_lines.specs.Lines.{OutsideRan}
use Rattle.store_lines.proofs.Answered.{no_txn, compact_outside}
use Rattle.store_lines.proofs.line.run_outside.Goals as goal

pub returns-in-Begin : goal.returns-in-Begin
returns-in-Begin g c =
    subst (λ q. OutsideRan c.args.board.now.turns c.args.board.now.shards q c.begin_line.result c.args.pass.now c.begin_line.new.pass c.args.session.now c.begin_line.new.session) (sym c.in-Begin.is) c.begin_line.ensures

pub returns-in-Compact : goal.returns-in-Compact
returns-in-Compact g c =
    subst (λ q. OutsideRan c.args.board.now.turns c.args.board.now.shards q reply.Compacted c.args.pass.now c.args.pass.now c.args.session.now c.args.session.now) (sym c.in-Compact.is) (compact_outside c.args.board.now.turns c.args.board.now.shards c.args.pass.now c.args.session.now c.requires.stands c.requires.outside c.in-Compact.v c.in-Compact.l)

pub returns-in_default : goal.returns-in_default
returns-in_default g c =
    no_txn c.args.board.now.turns c.args.board.now.shards c.args.pass.now c.args.session.now c.requires.stands c.requires.outside c.args.request.now c.in_default.not-Begin c.in_default.not-Compact
