use Rattle.drill_runs.proofs.running.drill_opened.Given as goal

abbrev pub ghost-run_both_on_log : goal.ghost-run_both_on_log
ghost-run_both_on_log g a = g.origin
