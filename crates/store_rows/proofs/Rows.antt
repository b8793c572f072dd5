-- What a call on one vertex of a shard leaves of what the shard shows, and what is known of the row.
use Rattle.std.proofs.Common.{◌≡◌, ◌≢◌, ℕ, ◌<◌, ◌%◌, sym, ap, ◌∙◌, subst, ◌⊎◌, inl, inr}
use Rattle.std.proofs.lemmas.Bool.{cases_eq}
use Rattle.graph_model.specs.declared.graph.Base.{Base}
use Rattle.edge_log.specs.Contents.{LogContent}
use Rattle.core_states.specs.Parts.{row_of}
use Rattle.shard_state.specs.declared.shard.Shard.{Shard}
use Rattle.shard_state.specs.Shards.{IsOf, SameShard, HasLoaded, KeepsRows, row_at}
use Rattle.shard_state.specs.RowLists.{rows_listed}
use Rattle.shard_state.proofs.Listing.{own-listed, others-listed}
use Rattle.number_map.specs.KeptAt.{kept_at}
use Rattle.std.specs.Prelude.{IsSome, ◌/◌}

module _ {L R : Type 0} (content : L → R → LogContent) (base : Base) (old new : Shard L R) (among : old.number < old.shards) (loaded : HasLoaded base.graph old) (same : SameShard old new) where
  of_old : (w : ℕ) → IsOf w new → IsOf w old
  of_old w own = ap (λ (k : ℕ). w % k) (sym same.shards) ∙ own ∙ same.number

  of_new : (w : ℕ) → IsOf w old → IsOf w new
  of_new w own = ap (λ (k : ℕ). w % k) same.shards ∙ own ∙ sym same.number

  pub loaded_new : HasLoaded base.graph new
  loaded_new v own some = subst (λ (k : ℕ). IsSome (kept_at new.rows (v / k))) (sym same.shards) (same.kept (v / old.shards) (loaded v (of_old v own) some))

  among_new : new.number < new.shards
  among_new = subst (λ (z : ℕ × ℕ). z.0 < z.1) (λ i. (sym same.number i, sym same.shards i)) among

  pub shown_old : (v : ℕ) → IsOf v old → row_of base (rows_listed content old) v ≡ row_at content old v
  shown_old v own = own-listed content base old v among loaded own

  pub shown_new : (v : ℕ) → IsOf v old → row_of base (rows_listed content new) v ≡ row_at content new v
  shown_new v own = own-listed content base new v among_new loaded_new (of_new v own)

  pub others_still : (v : ℕ) → KeepsRows content v old new → (w : ℕ) → w ≢ v → row_of base (rows_listed content new) w ≡ row_of base (rows_listed content old) w
  others_still v keeps w other = by_own (cases_eq (w % old.shards) old.number)
    where
      by_own : IsOf w old ⊎ (IsOf w old → ⊥) → row_of base (rows_listed content new) w ≡ row_of base (rows_listed content old) w
      by_own (inl own) = shown_new w own ∙ keeps w own other ∙ sym (shown_old w own)
      by_own (inr elsewhere) = others-listed content base new w among_new (λ own. elsewhere (of_old w own)) ∙ sym (others-listed content base old w among elsewhere)

  pub all_still : ((w : ℕ) → row_at content new w ≡ row_at content old w) → (w : ℕ) → row_of base (rows_listed content new) w ≡ row_of base (rows_listed content old) w
  all_still keeps w = by_own (cases_eq (w % old.shards) old.number)
    where
      by_own : IsOf w old ⊎ (IsOf w old → ⊥) → row_of base (rows_listed content new) w ≡ row_of base (rows_listed content old) w
      by_own (inl own) = shown_new w own ∙ keeps w ∙ sym (shown_old w own)
      by_own (inr elsewhere) = others-listed content base new w among_new (λ own. elsewhere (of_old w own)) ∙ sym (others-listed content base old w among elsewhere)

  -- one vertex has the row that it had, and so have all others
  pub row_still : (v : ℕ) → IsOf v old → row_at content new v ≡ row_at content old v → KeepsRows content v old new → (w : ℕ) → row_of base (rows_listed content new) w ≡ row_of base (rows_listed content old) w
  row_still v own is keeps w = by_vertex (cases_eq w v)
    where
      by_vertex : (w ≡ v) ⊎ (w ≡ v → ⊥) → row_of base (rows_listed content new) w ≡ row_of base (rows_listed content old) w
      by_vertex (inl same_one) = subst (λ z. row_of base (rows_listed content new) z ≡ row_of base (rows_listed content old) z) (sym same_one) (shown_new v own ∙ is ∙ sym (shown_old v own))
      by_vertex (inr other) = others_still v keeps w other
