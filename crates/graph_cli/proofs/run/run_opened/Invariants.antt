use Rattle.graph_cli.proofs.run.run_opened.Given as goal

abbrev pub ghost-run_on_log : goal.ghost-run_on_log
ghost-run_on_log g a = g.origin
