use Rattle.block_layout.proofs.Blocked.{block-head, block-header}
use Rattle.block_layout.proofs.laws.a_block_begins_with_its_header.Goals as goal

pub returns-clause-read : goal.returns-clause-read
returns-clause-read c = block-head

pub returns-clause-written : goal.returns-clause-written
returns-clause-written c = block-header
