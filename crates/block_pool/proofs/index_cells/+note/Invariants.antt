use Rattle.block_pool.proofs.index_cells.+note.Given as goal

abbrev pub decreases-note : goal.decreases-note
decreases-note l = l.depth
