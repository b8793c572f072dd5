use Rattle.std.proofs.Common.{◌≡◌, ◌+◌, ℕ, true, length}
use Rattle.std.specs.Prelude.{Some, is_some, IsTrue}
use Rattle.graph_model.specs.Vertex.{Vertex}
use Rattle.graph_model.specs.Graph.{vertex_at}
use Rattle.graph_model.specs.Whole.{is_graph}
use Rattle.graph_dump.specs.DumpText.{edge_count}
use Rattle.graph_dump.proofs.Rests.{left}
use Rattle.graph_drill.specs.Summary.{destination_sum}
use Rattle.graph_drill.specs.Totals.{IsBounded}
use Rattle.graph_drill.proofs.totals.totals_of.Given as goal

-- the edges of the vertices before the next one were added, and the next one is there
abbrev pub invariant-loop-next : goal.invariant-loop-next
invariant-loop-next l = record {
  edges : l.totals.edges + edge_count (left (λ (x : Vertex). x.number) l.next l.g) ≡ edge_count l.g;
  sum : l.totals.sum + destination_sum (left (λ (x : Vertex). x.number) l.next l.g) ≡ destination_sum l.g;
  bounded : IsBounded l.totals;
  met : (n : ℕ) → l.next ≡ Some n → is_some (vertex_at n l.g) ≡ true;
  whole : IsTrue (is_graph l.g);
}

abbrev pub decreases-loop-next : goal.decreases-loop-next
decreases-loop-next l = length (left (λ (x : Vertex). x.number) l.next l.g)
