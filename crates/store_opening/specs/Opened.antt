-- What the board of a store is opened with.
use Rattle.std.specs.Prelude.{◌≡◌, ℕ, ◌+◌, List, [], ◌∷◌, Option, Some, None, Box}
use Rattle.graph_model.specs.declared.graph.Base.{Base}
use Rattle.graph_model.specs.Graph.{vertex_at}
use Rattle.core_states.specs.LogParts.{Found}
use Rattle.core_states.specs.Openings.{opened_row}
use Rattle.core_states.specs.Parts.{row_of}
use Rattle.turn_board.specs.Views.{Start}
use Rattle.turn_board.specs.Openings.{limits_of}
use Rattle.turn_board.specs.declared.home.Home.{Home}
use Rattle.turn_board.specs.declared.home.Home.TheVariants as home
use Rattle.store_rows.specs.ShardValues.{ShardValue}

-- what the board is made for: this base, logs of so many bytes at most, what the run found of the log's disk, and so many shards
abbrev pub start_with : Base → ℕ → Found → ℕ → Start
start_with base most found count = record { base = base; limits = limits_of most; found = found; shards = count }

-- The value is the shard of this number among so many, as a run of the base starts with it.
pub record IsOpened (base : Base) (number count most : ℕ) (x : ShardValue) : Type 0 where
  pub place : x.place ≡ record { number = number; shards = count; log_most = most; base = base }
  pub rows : (v : ℕ) → row_of base x.rows v ≡ opened_row base.epoch (vertex_at v base.graph)

-- These are shards of so many in their boxes, as a run of the base starts with them, numbered from here on.
abbrev pub AllOpened : {Z E W : Type 0} → Base → ℕ → ℕ → ℕ → List (Option (Home (Box ShardValue Z) E W)) → Type 0
AllOpened base count most n [] = Unit {0}
AllOpened base count most n (None ∷ xs) = ⊥
AllOpened base count most n (Some (home.Shard x) ∷ xs) = IsOpened base n count most x.value × AllOpened base count most (n + 1) xs
AllOpened base count most n (Some (home.Clock c) ∷ xs) = ⊥
AllOpened base count most n (Some (home.Log g) ∷ xs) = ⊥

-- each of the values is a shard
abbrev pub AreShards : {X E W : Type 0} → List (Option (Home X E W)) → Type 0
AreShards [] = Unit {0}
AreShards (None ∷ xs) = ⊥
AreShards (Some (home.Shard x) ∷ xs) = AreShards xs
AreShards (Some (home.Clock c) ∷ xs) = ⊥
AreShards (Some (home.Log g) ∷ xs) = ⊥
