use Rattle.log_scripts.proofs.OwnerFacts.{owned-live, owned-ended}
use Rattle.log_scripts.proofs.steps.end_seen.Goals as goal

pub end_entry-requires-clause-live : goal.end_entry-requires-clause-live
end_entry-requires-clause-live g c =
    let content = g.L.EdgeLog.content c.args.log.now c.args.room.now in
    owned-live c.args.writer.read c.args.writer.tid c.args.d c.in-Some.place content c.requires.owned c.in-Some.ensures.found

pub returns-in-Some-clause-owned : goal.returns-in-Some-clause-owned
returns-in-Some-clause-owned g c =
    let content = g.L.EdgeLog.content c.args.log.now c.args.room.now in
    rw c.end_entry.ensures.ended
    (owned-ended c.args.writer.read c.args.writer.tid c.in-Some.place content c.requires.owned)
