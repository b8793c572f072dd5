use Rattle.script_runs.proofs.run.run_on_log.Given as goal

abbrev pub ghost-open_seat : goal.ghost-open_seat
ghost-open_seat g a = g.origin
