-- What is sent to the workers may be sent.
use denote.Param.Send.{param_send, param_sync, arg_sync, given_send, given_sync}
use Rattle.std.proofs.Common.{rules}
use Rattle.std.proofs.lemmas.Bool.{false≢true}
use Rattle.graph.proofs.carry_out.Goals as goal

pub run_graph-status-requires : goal.run_graph-status-requires
run_graph-status-requires g c κs within =
    (search rules, (search rules, (search rules, (search rules, (search rules, (param_send 2 _ (given_send 2 _ g.row.D c.type_bounds.send-D), (param_sync 2 _ (arg_sync _ _ g.row.D (given_sync 2 g.row.D c.type_bounds.sync-D)), (search rules, (param_sync 4 _ (arg_sync _ _ g.row.R (given_sync 3 g.row.R c.type_bounds.sync-R)), λ e. absurd (false≢true e))))))))))
