use Rattle.block_layout.proofs.Blocked.{length-filter, filter-is, block-filter}
use Rattle.block_layout.proofs.laws.a_block_has_its_filter.Goals as goal

pub returns-clause-long : goal.returns-clause-long
returns-clause-long c = length-filter

pub returns-clause-filter : goal.returns-clause-filter
returns-clause-filter c = filter-is

pub returns-clause-written : goal.returns-clause-written
returns-clause-written c = block-filter
