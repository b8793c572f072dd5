use Rattle.std.proofs.Common.{◌≡◌, ℕ, take, unwrap_or, is_some, IsTrue}
use Rattle.std.specs.Ordering.{nat_cmp}
use Rattle.std.specs.BTreeMap.{get}
use Rattle.graph_model.specs.Graph.{vertex_at, after, all_fit}
use Rattle.graph_model.proofs.graph.Graph.accepts.Given as goal

-- the changes so far fit, and the map says which vertices are there after them
abbrev pub invariant-loop-change : goal.invariant-loop-change
invariant-loop-change l = record {
  fit : IsTrue (all_fit (take l.change-index l.change-items) l.self);
  there : (q : ℕ) → unwrap_or (get nat_cmp l.touched q) (is_some (vertex_at q l.self)) ≡ is_some (vertex_at q (after (take l.change-index l.change-items) l.self));
}
