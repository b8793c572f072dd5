use Rattle.block_pool.proofs.index_cells.+first_with.Given as goal

abbrev pub decreases-first_with : goal.decreases-first_with
decreases-first_with l = l.depth
