use Rattle.block_layout.proofs.Written.{held-free, held-front}
use Rattle.block_layout.proofs.Blocked.{block-free}
use Rattle.block_layout.proofs.laws.a_write_elsewhere_leaves_the_entries.Goals as goal

pub returns-clause-free : goal.returns-clause-free
returns-clause-free c = held-free

pub returns-clause-front : goal.returns-clause-front
returns-clause-front c = held-front

pub returns-clause-block : goal.returns-clause-block
returns-clause-block c = block-free
