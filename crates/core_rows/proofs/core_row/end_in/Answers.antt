-- The log of the label is written where it stands.
use Rattle.std.proofs.Common.{sym}
use Rattle.core_rows.proofs.LogLists.{log_at-some, log_at-none, ended-through, unchanged-through}
use Rattle.core_rows.proofs.core_row.end_in.Goals as goal

pub returns-in-Some-clause-ended : goal.returns-in-Some-clause-ended
returns-in-Some-clause-ended c =
    let at = sym c.in-Some.ensures.value in
    rw (log_at-some c.args.l c.args.logs.now.entries c.in-Some.log.now at)
    (ended-through c.end.result c.args.logs.now.entries _ c.args.l c.in-Some.log.now c.end.new.self _ c.requires at (c.get_mut.follows.holds c.end.new.self).0 c.end.ensures.ended c.end.ensures.absent)

pub returns-in-Some-clause-there : goal.returns-in-Some-clause-there
returns-in-Some-clause-there c = rw (log_at-some c.args.l c.args.logs.now.entries c.in-Some.log.now (sym c.in-Some.ensures.value)) c.end.ensures.there

pub returns-in-None-clause-there : goal.returns-in-None-clause-there
returns-in-None-clause-there c = rw (log_at-none c.args.l c.args.logs.now.entries (sym c.in-None.ensures.value))

pub returns-in-Some-clause-unchanged : goal.returns-in-Some-clause-unchanged
returns-in-Some-clause-unchanged c =
    unchanged-through c.end.result c.args.logs.now.entries _ c.args.l c.in-Some.log.now c.end.new.self (sym c.in-Some.ensures.value) (c.get_mut.follows.holds c.end.new.self).0 c.end.ensures.unchanged
