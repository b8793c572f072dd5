use Rattle.std.proofs.Common.{sym}
use Rattle.store_sessions.proofs.giving_up.next_taken.Goals as goal

pub returns-clause-some : goal.returns-clause-some
returns-clause-some c = (c.in_ok-work.work.now, sym c.in_ok-work.ensures.value, (c.in_ok-v.field-0-1, sym c.in_ok-v.ensures.at))
