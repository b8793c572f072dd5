use Rattle.store_log.proofs.log_home.LogHome.opened.Given as goal

abbrev pub ghost-first_notes : goal.ghost-first_notes
ghost-first_notes g a = g.origin
