use Rattle.std.proofs.Common.{sym}
use Rattle.store_commits.proofs.waiting.known_outcome.Goals as goal

pub returns-in-Decided-clause-some : goal.returns-in-Decided-clause-some
returns-in-Decided-clause-some c = (c.in_ok-outcome.field-0.now, sym c.in_ok-outcome.ensures.value, c.in-Decided.is)
