use Rattle.graph_cli.proofs.top_call.run_graph.Given as goal

abbrev pub ghost-carry_out : goal.ghost-carry_out
ghost-carry_out g a = g.settled
