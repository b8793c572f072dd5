use Rattle.std.proofs.Common.{◌≡◌, ◌+◌, [], length, flat_map}
use Rattle.std.specs.Prelude.{unwrap_or}
use Rattle.graph_model.specs.Graph.{vertex_at}
use Rattle.graph_model.specs.Walking.{pairs_of}
use Rattle.request_text.specs.Printing.{outflow}
use Rattle.request_text.proofs.Putting.{PutSoFar}
use Rattle.graph_dump.specs.DumpText.{edge_line}
use Rattle.graph_dump.proofs.dump.put_edges.Given as goal

-- the edges so far were put and counted
abbrev pub invariant-loop-edge : goal.invariant-loop-edge
invariant-loop-edge g l = record {
  put : PutSoFar (outflow (g.K.Sink.written l.fn.sink) (g.O.Outlet.pending l.fn.outlet) (g.K.Sink.faults l.fn.sink))
      (outflow (g.K.Sink.written l.sink) (g.O.Outlet.pending l.outlet) (g.K.Sink.faults l.sink))
      (flat_map (edge_line l.v l.l) (unwrap_or (pairs_of (vertex_at l.v l.g) l.l) [])) (flat_map (edge_line l.v l.l) l.edge-iterator);
  counted : l.edges + length l.edge-iterator ≡ l.fn.edges + length (unwrap_or (pairs_of (vertex_at l.v l.g) l.l) []);
}
