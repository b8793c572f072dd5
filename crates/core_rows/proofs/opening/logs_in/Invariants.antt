use Rattle.std.proofs.Common.{◌≡◌, take}
use Rattle.core_rows.specs.LogMap.{logs_of}
use Rattle.core_rows.specs.Openings.{lists_in}
use Rattle.graph_model.specs.Graph.{vertex_at}
use Rattle.core_rows.proofs.OpenedLogs.{labelled_logs}
use Rattle.core_rows.proofs.opening.logs_in.Given as goal

-- the logs of the labels so far
abbrev pub invariant-loop-label : goal.invariant-loop-label
invariant-loop-label l = logs_of l.logs.entries ≡ labelled_logs l.epoch (lists_in (vertex_at l.v l.graph)) (take l.label-index l.label-items)
