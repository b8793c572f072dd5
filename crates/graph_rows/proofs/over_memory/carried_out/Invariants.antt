-- Of these disks it is not said what a crash at entry would leave.
use Rattle.std.proofs.Common.{false}
use Rattle.graph_rows.proofs.over_memory.carried_out.Given as goal

abbrev pub ghost-run_graph : goal.ghost-run_graph
ghost-run_graph g a = false
