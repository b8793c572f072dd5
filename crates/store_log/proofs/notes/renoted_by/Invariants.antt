use Rattle.store_log.proofs.notes.renoted_by.Given as goal

abbrev pub ghost-renoted : goal.ghost-renoted
ghost-renoted g a = g.noted
