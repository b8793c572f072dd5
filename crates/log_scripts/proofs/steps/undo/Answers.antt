use Rattle.log_scripts.proofs.OwnerFacts.{owned-tail, owned-undone}
use Rattle.log_scripts.proofs.steps.undo.Goals as goal

pub undo-requires-clause-tail : goal.undo-requires-clause-tail
undo-requires-clause-tail g c =
    let content = g.L.EdgeLog.content c.args.log.now c.args.room.now in
    owned-tail c.args.writer.now.read c.args.writer.now.tid content c.requires.owned

pub returns-clause-owned : goal.returns-clause-owned
returns-clause-owned g c =
    let content = g.L.EdgeLog.content c.args.log.now c.args.room.now in
    rw c.undo.ensures.undone
    (owned-undone c.args.writer.now.read c.args.writer.now.tid c.saturating_add-writer.result content c.requires.owned)
