use Rattle.std.proofs.Common.{◌≡◌, ◌+◌, ◌<◌, ◌^◌, [], length}
use Rattle.std.specs.Prelude.{unwrap_or}
use Rattle.graph_model.specs.Graph.{vertex_at}
use Rattle.graph_model.specs.Walking.{pairs_of}
use Rattle.graph_drill.specs.Summary.{pairs_sum}
use Rattle.graph_drill.specs.Totals.{IsBounded}
use Rattle.graph_drill.proofs.totals.Totals.add_list.Given as goal

-- the edges so far were added
abbrev pub invariant-loop-edge : goal.invariant-loop-edge
invariant-loop-edge l = record {
  edges : l.self.edges + length l.edge-iterator ≡ l.fn.self.edges + length (unwrap_or (pairs_of (vertex_at l.v l.g) l.l) []);
  sum : l.self.sum + pairs_sum l.edge-iterator ≡ l.fn.self.sum + pairs_sum (unwrap_or (pairs_of (vertex_at l.v l.g) l.l) []);
  bounded : IsBounded l.self;
}
