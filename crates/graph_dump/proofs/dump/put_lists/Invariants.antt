use Rattle.std.proofs.Common.{◌≡◌, ◌+◌, ℕ, true, length, flat_map}
use Rattle.std.specs.Prelude.{◌==◌, Some, find, is_some}
use Rattle.graph_model.specs.Vertex.{LabelList}
use Rattle.graph_model.specs.Graph.{vertex_at}
use Rattle.request_text.specs.Printing.{outflow}
use Rattle.request_text.proofs.Putting.{PutSoFar}
use Rattle.graph_dump.specs.DumpText.{list_text}
use Rattle.graph_dump.specs.PlaceText.{lists_at, lists_text, edges_in}
use Rattle.graph_dump.proofs.Rests.{left}
use Rattle.graph_dump.proofs.dump.put_lists.Given as goal

-- the lists before the next label were put and counted, and that label has a list
abbrev pub invariant-loop-next : goal.invariant-loop-next
invariant-loop-next g l = record {
  put : PutSoFar (outflow (g.K.Sink.written l.fn.sink) (g.O.Outlet.pending l.fn.outlet) (g.K.Sink.faults l.fn.sink))
      (outflow (g.K.Sink.written l.sink) (g.O.Outlet.pending l.outlet) (g.K.Sink.faults l.sink))
      (lists_text l.v (vertex_at l.v l.g)) (flat_map (list_text l.v) (left (λ (y : LabelList). y.label) l.next (lists_at (vertex_at l.v l.g))));
  counted : l.edges + edges_in (left (λ (y : LabelList). y.label) l.next (lists_at (vertex_at l.v l.g))) ≡ l.fn.edges + edges_in (lists_at (vertex_at l.v l.g));
  met : (n : ℕ) → l.next ≡ Some n → is_some (find (λ (y : LabelList). y.label == n) (lists_at (vertex_at l.v l.g))) ≡ true;
}

abbrev pub decreases-loop-next : goal.decreases-loop-next
decreases-loop-next g l = length (left (λ (y : LabelList). y.label) l.next (lists_at (vertex_at l.v l.g)))
