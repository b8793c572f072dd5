use Rattle.std.proofs.Common.{◌≤◌, arith}
use Rattle.log_scripts.proofs.OwnerFacts.{owned-tail, owned-converted}
use Rattle.log_scripts.proofs.steps.commit.Goals as goal

pub convert-requires-clause-tail : goal.convert-requires-clause-tail
convert-requires-clause-tail g c =
    let content = g.L.EdgeLog.content c.args.log.now c.args.room.now in
    owned-tail c.args.writer.now.read c.args.writer.now.tid content c.requires.owned

pub returns-clause-owned : goal.returns-clause-owned
returns-clause-owned g c =
    let content = g.L.EdgeLog.content c.args.log.now c.args.room.now in
    let later : c.args.writer.now.read ≤ c.args.epoch = omega (arith, c.requires.later) in
    rw c.convert.ensures.converted
    (owned-converted c.args.writer.now.read c.args.epoch c.args.writer.now.tid c.saturating_add-writer.result content later c.requires.owned)
