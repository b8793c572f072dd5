use Rattle.std.proofs.Common.{◌-◌, List, length}
use Rattle.graph_model.specs.declared.record.Record.{Record}
use Rattle.group_codec.proofs.Gates.{IsAtGate}
use Rattle.group_codec.proofs.log.decode_with_graph.Given as goal

abbrev pub invariant-loop-place : goal.invariant-loop-place
invariant-loop-place l = (groups : List (List Record)) × IsAtGate l.bytes l.judge l.records l.place l.count groups

abbrev pub decreases-loop-place : goal.decreases-loop-place
decreases-loop-place l = length l.bytes - l.place
