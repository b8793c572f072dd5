use Rattle.std.proofs.Common.{◌≡◌, ℕ, Some}
use Rattle.std.specs.Prelude.{IsTrue, IsSome}
use Rattle.graph_model.specs.Graph.{vertex_at}
use Rattle.graph_model.specs.Whole.{is_graph}
use Rattle.shard_state.specs.Shards.{IsShard}
use Rattle.shard_state.proofs.Loads.{IsLoadedUpTo, left_of}
use Rattle.shard_state.proofs.loading.Shard+L+L+Room.load.Given as goal

-- the vertices of the shard before the next one are loaded, and none from there on
abbrev pub invariant-loop-next : goal.invariant-loop-next
invariant-loop-next g l = record {
  shard : IsShard g.L.EdgeLog.stands g.L.EdgeLog.footprint g.L.EdgeLog.content g.L.EdgeLog.limit l.shard;
  is : (l.shard.number ≡ l.number) × (l.shard.shards ≡ l.shards) × (l.shard.log_most ≡ l.log_most);
  whole : IsTrue (is_graph l.base.graph);
  loaded : IsLoadedUpTo g.L.EdgeLog.content l.base l.shard l.next;
  there : (v : ℕ) → l.next ≡ Some v → IsSome (vertex_at v l.base.graph);
}

abbrev pub decreases-loop-next : goal.decreases-loop-next
decreases-loop-next g l = left_of l.base.graph l.next
