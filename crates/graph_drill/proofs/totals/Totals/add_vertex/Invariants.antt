use Rattle.std.proofs.Common.{◌≡◌, ◌+◌, ℕ, true, length}
use Rattle.std.specs.Prelude.{◌==◌, Some, find, is_some}
use Rattle.graph_model.specs.Vertex.{LabelList}
use Rattle.graph_model.specs.Graph.{vertex_at}
use Rattle.graph_dump.specs.PlaceText.{lists_at, edges_in}
use Rattle.graph_dump.proofs.Rests.{left}
use Rattle.graph_drill.specs.Summary.{lists_sum}
use Rattle.graph_drill.specs.Totals.{IsBounded}
use Rattle.graph_drill.proofs.totals.Totals.add_vertex.Given as goal

-- the lists before the next label were added, and that label has a list
abbrev pub invariant-loop-next : goal.invariant-loop-next
invariant-loop-next l = record {
  edges : l.self.edges + edges_in (left (λ (y : LabelList). y.label) l.next (lists_at (vertex_at l.v l.g))) ≡ l.fn.self.edges + edges_in (lists_at (vertex_at l.v l.g));
  sum : l.self.sum + lists_sum (left (λ (y : LabelList). y.label) l.next (lists_at (vertex_at l.v l.g))) ≡ l.fn.self.sum + lists_sum (lists_at (vertex_at l.v l.g));
  bounded : IsBounded l.self;
  met : (n : ℕ) → l.next ≡ Some n → is_some (find (λ (y : LabelList). y.label == n) (lists_at (vertex_at l.v l.g))) ≡ true;
}

abbrev pub decreases-loop-next : goal.decreases-loop-next
decreases-loop-next l = length (left (λ (y : LabelList). y.label) l.next (lists_at (vertex_at l.v l.g)))
