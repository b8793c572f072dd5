use Rattle.std.proofs.Common.{◌≡◌, ◌+◌, ℕ, true, length, flat_map}
use Rattle.std.specs.Prelude.{Some, is_some, IsTrue}
use Rattle.graph_model.specs.Vertex.{Vertex}
use Rattle.graph_model.specs.Graph.{vertex_at}
use Rattle.graph_model.specs.Whole.{is_graph}
use Rattle.request_text.specs.Printing.{outflow}
use Rattle.request_text.proofs.Putting.{PutSoFar}
use Rattle.graph_dump.specs.DumpText.{vertex_text, edge_count}
use Rattle.graph_dump.proofs.Rests.{left}
use Rattle.graph_dump.proofs.dump.put_vertices.Given as goal

-- the vertices before the next one were put with their edges, which were counted, and the next one is there
abbrev pub invariant-loop-next : goal.invariant-loop-next
invariant-loop-next g l = record {
  put : PutSoFar (outflow (g.K.Sink.written l.fn.sink) (g.O.Outlet.pending l.fn.outlet) (g.K.Sink.faults l.fn.sink))
      (outflow (g.K.Sink.written l.sink) (g.O.Outlet.pending l.outlet) (g.K.Sink.faults l.sink))
      (flat_map vertex_text l.g) (flat_map vertex_text (left (λ (x : Vertex). x.number) l.next l.g));
  counted : l.edges + edge_count (left (λ (x : Vertex). x.number) l.next l.g) ≡ l.fn.edges + edge_count l.g;
  met : (n : ℕ) → l.next ≡ Some n → is_some (vertex_at n l.g) ≡ true;
  whole : IsTrue (is_graph l.g);
}

abbrev pub decreases-loop-next : goal.decreases-loop-next
decreases-loop-next g l = length (left (λ (x : Vertex). x.number) l.next l.g)
