use Rattle.block_pool.proofs.cells.+carve.Given as goal

abbrev pub decreases-carve : goal.decreases-carve
decreases-carve l = l.own
