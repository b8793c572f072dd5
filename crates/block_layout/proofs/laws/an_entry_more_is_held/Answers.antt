use Rattle.block_layout.proofs.Written.{held-appended}
use Rattle.block_layout.proofs.Blocked.{block-appended}
use Rattle.block_layout.proofs.laws.an_entry_more_is_held.Goals as goal

pub returns-clause-held : goal.returns-clause-held
returns-clause-held c = held-appended

pub returns-clause-block : goal.returns-clause-block
returns-clause-block c = block-appended
