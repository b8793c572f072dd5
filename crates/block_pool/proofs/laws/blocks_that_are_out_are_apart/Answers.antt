use Rattle.block_pool.proofs.ApartFacts.{all_apart}
use Rattle.block_pool.proofs.laws.blocks_that_are_out_are_apart.Goals as goal

pub returns : goal.returns
returns c = all_apart 0
