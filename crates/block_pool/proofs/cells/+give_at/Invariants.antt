use Rattle.block_pool.proofs.cells.+give_at.Given as goal

abbrev pub decreases-give_at : goal.decreases-give_at
decreases-give_at l = l.own
