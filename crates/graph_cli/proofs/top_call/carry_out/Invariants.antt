use Rattle.graph_cli.proofs.top_call.carry_out.Given as goal

abbrev pub ghost-run : goal.ghost-run
ghost-run g a = g.settled

abbrev pub ghost-drill : goal.ghost-drill
ghost-drill g a = g.settled
