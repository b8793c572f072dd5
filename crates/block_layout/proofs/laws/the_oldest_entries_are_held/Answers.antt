use Rattle.block_layout.proofs.AtPlaces.{held-oldest}
use Rattle.block_layout.proofs.Blocked.{block-oldest}
use Rattle.block_layout.proofs.laws.the_oldest_entries_are_held.Goals as goal

pub returns-clause-held : goal.returns-clause-held
returns-clause-held c = held-oldest

pub returns-clause-block : goal.returns-clause-block
returns-clause-block c = block-oldest
