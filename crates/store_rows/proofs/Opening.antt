-- A shard that has loaded a base shows the rows that a run of it starts with.
use Rattle.std.proofs.Common.{◌≡◌, ℕ, ◌<◌, ◌%◌, ◌∙◌, ◌⊎◌, inl, inr}
use Rattle.std.proofs.lemmas.Bool.{cases_eq}
use Rattle.graph_model.specs.declared.graph.Base.{Base}
use Rattle.graph_model.specs.Graph.{vertex_at}
use Rattle.edge_log.specs.Contents.{LogContent}
use Rattle.core_rows.specs.Openings.{opened_row}
use Rattle.core_states.specs.Parts.{row_of}
use Rattle.shard_state.specs.declared.shard.Shard.{Shard}
use Rattle.shard_state.specs.Shards.{IsOf, HasLoaded, row_at}
use Rattle.shard_state.specs.RowLists.{rows_listed}
use Rattle.shard_state.proofs.Listing.{own-listed, others-listed}

-- its own vertices it has loaded, and of all others it says what the base does
pub rows_opened : {L R : Type 0} (content : L → R → LogContent) (base : Base) (shard : Shard L R) → shard.number < shard.shards → HasLoaded base.graph shard
    → ((v : ℕ) → IsOf v shard → row_at content shard v ≡ opened_row base.epoch (vertex_at v base.graph))
    → (v : ℕ) → row_of base (rows_listed content shard) v ≡ opened_row base.epoch (vertex_at v base.graph)
rows_opened content base shard among loaded opened v = by_own (cases_eq (v % shard.shards) shard.number)
  where
    by_own : IsOf v shard ⊎ (IsOf v shard → ⊥) → row_of base (rows_listed content shard) v ≡ opened_row base.epoch (vertex_at v base.graph)
    by_own (inl own) = own-listed content base shard v among loaded own ∙ opened v own
    by_own (inr elsewhere) = others-listed content base shard v among elsewhere
