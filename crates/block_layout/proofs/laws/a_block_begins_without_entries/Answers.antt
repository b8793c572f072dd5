use Rattle.block_layout.proofs.Blocked.{block-none}
use Rattle.block_layout.proofs.laws.a_block_begins_without_entries.Goals as goal

pub returns : goal.returns
returns c = block-none
