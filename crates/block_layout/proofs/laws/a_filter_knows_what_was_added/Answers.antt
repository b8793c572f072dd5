use Rattle.block_layout.proofs.Blocked.{knows-created, knows-ended, knows-oldest, knows-added}
use Rattle.block_layout.proofs.laws.a_filter_knows_what_was_added.Goals as goal

pub returns-clause-created : goal.returns-clause-created
returns-clause-created c = knows-created

pub returns-clause-ended : goal.returns-clause-ended
returns-clause-ended c = knows-ended

pub returns-clause-oldest : goal.returns-clause-oldest
returns-clause-oldest c = knows-oldest

pub returns-clause-added : goal.returns-clause-added
returns-clause-added c = knows-added
