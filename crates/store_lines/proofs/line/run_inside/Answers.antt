use Rattle.std.proofs.Common.{sym, subst}
use Rattle.request_text.specs.declared.reply.Reply.TheVariants as reply
use Rattle.std.proofs.Common.{arith}
use Rattle.request_text.specs.Limits.{IsRequestWithin}
use Rattle.store_lines.specs.Lines.{InsideRan}
use Rattle.store_lines.proofs.Answered.{open_ran, compact_inside}
use Rattle.store_lines.proofs.line.run_inside.Goals as goal

pub returns-in-Begin : goal.returns-in-Begin
returns-in-Begin g c =
    subst (λ q. InsideRan c.args.board.now.turns c.args.board.now.shards q reply.TxnOpen c.args.pass.now c.args.pass.now c.args.session.now c.args.session.now) (sym c.in-Begin.is) (open_ran c.args.board.now.turns c.args.board.now.shards c.args.pass.now c.args.session.now c.requires.stands c.requires.inside)

pub returns-in-Vertex : goal.returns-in-Vertex
returns-in-Vertex g c =
    subst (λ q. InsideRan c.args.board.now.turns c.args.board.now.shards q c.make_line.result c.args.pass.now c.make_line.new.pass c.args.session.now c.make_line.new.session) (sym c.in-Vertex.is) c.make_line.ensures

pub returns-in-Set : goal.returns-in-Set
returns-in-Set g c =
    subst (λ q. InsideRan c.args.board.now.turns c.args.board.now.shards q c.set_line.result c.args.pass.now c.set_line.new.pass c.args.session.now c.set_line.new.session) (sym c.in-Set.is) c.set_line.ensures

pub returns-in-Get : goal.returns-in-Get
returns-in-Get g c =
    subst (λ q. InsideRan c.args.board.now.turns c.args.board.now.shards q c.read_line.result c.args.pass.now c.read_line.new.pass c.args.session.now c.args.session.now) (sym c.in-Get.is) c.read_line.ensures

pub returns-in-Drop : goal.returns-in-Drop
returns-in-Drop g c =
    subst (λ q. InsideRan c.args.board.now.turns c.args.board.now.shards q c.drop_line.result c.args.pass.now c.drop_line.new.pass c.args.session.now c.drop_line.new.session) (sym c.in-Drop.is) c.drop_line.ensures

pub put_line-requires-clause-destination : goal.put_line-requires-clause-destination
put_line-requires-clause-destination g c =
    let low = (subst IsRequestWithin c.in-Put.is c.requires.within).2 in omega (arith, low)

pub returns-in-Put : goal.returns-in-Put
returns-in-Put g c =
    subst (λ q. InsideRan c.args.board.now.turns c.args.board.now.shards q c.put_line.result c.args.pass.now c.put_line.new.pass c.args.session.now c.put_line.new.session) (sym c.in-Put.is) c.put_line.ensures

pub returns-in-Del : goal.returns-in-Del
returns-in-Del g c =
    subst (λ q. InsideRan c.args.board.now.turns c.args.board.now.shards q c.del_line.result c.args.pass.now c.del_line.new.pass c.args.session.now c.del_line.new.session) (sym c.in-Del.is) c.del_line.ensures

pub returns-in-Edge : goal.returns-in-Edge
returns-in-Edge g c =
    subst (λ q. InsideRan c.args.board.now.turns c.args.board.now.shards q c.read_line-in-Edge.result c.args.pass.now c.read_line-in-Edge.new.pass c.args.session.now c.args.session.now) (sym c.in-Edge.is) c.read_line-in-Edge.ensures

pub returns-in-Scan : goal.returns-in-Scan
returns-in-Scan g c =
    subst (λ q. InsideRan c.args.board.now.turns c.args.board.now.shards q c.read_line-in-Scan.result c.args.pass.now c.read_line-in-Scan.new.pass c.args.session.now c.args.session.now) (sym c.in-Scan.is) c.read_line-in-Scan.ensures

pub returns-in-Labels : goal.returns-in-Labels
returns-in-Labels g c =
    subst (λ q. InsideRan c.args.board.now.turns c.args.board.now.shards q c.read_line-in-Labels.result c.args.pass.now c.read_line-in-Labels.new.pass c.args.session.now c.args.session.now) (sym c.in-Labels.is) c.read_line-in-Labels.ensures

pub returns-in-Commit : goal.returns-in-Commit
returns-in-Commit g c =
    subst (λ q. InsideRan c.args.board.now.turns c.args.board.now.shards q c.commit_line.result c.args.pass.now c.commit_line.new.pass c.args.session.now c.commit_line.new.session) (sym c.in-Commit.is) c.commit_line.ensures

pub returns-in-Abort : goal.returns-in-Abort
returns-in-Abort g c =
    subst (λ q. InsideRan c.args.board.now.turns c.args.board.now.shards q c.abort_line.result c.args.pass.now c.abort_line.new.pass c.args.session.now c.abort_line.new.session) (sym c.in-Abort.is) c.abort_line.ensures

pub returns-in-Compact : goal.returns-in-Compact
returns-in-Compact g c =
    subst (λ q. InsideRan c.args.board.now.turns c.args.board.now.shards q reply.Compacted c.args.pass.now c.args.pass.now c.args.session.now c.args.session.now) (sym c.in-Compact.is) (compact_inside c.args.board.now.turns c.args.board.now.shards c.args.pass.now c.args.session.now c.requires.stands c.requires.inside c.in-Compact.v c.in-Compact.l)
