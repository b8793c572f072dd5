-- The log that a store is opened over.
use Rattle.std.specs.Prelude.{◌≡◌, ℕ, ◌≤◌, true, List, [], Option}
use Rattle.graph_model.specs.declared.graph.Base.{Base}
use Rattle.graph_wal.specs.Appends.{HasAppended}
use Rattle.graph_wal.specs.Log.{HasNoRest, IsMended}
use Rattle.graph_wal.specs.declared.wal.Wal.{Wal}
use Rattle.store_log.specs.LogChanges.{IsBaseOf}
use Rattle.store_log.specs.LogValues.{where_told}
use Rattle.store_log.specs.Written.{Origin}

-- No attempt stands on the log, the base is that of its records, which a crash since a moment, none after the disk's, leaves; and its epoch is the last.
pub record IsFound {D : Type 0} (told : D → Option (List ℕ)) (moment : D → ℕ) (images : D → ℕ → List ℕ → Type 0) (base : Base) (wal : Wal D) (origin : Origin) : Type 0 where
  pub begun : HasAppended told moment images wal origin.since origin.base [] []
  pub mended : IsMended wal
  pub epoch : base.epoch ≡ origin.epoch
  pub base_is : IsBaseOf base (where_told (told wal.disk) origin.base)
  pub no_rest : origin.no_rest ≡ true → HasNoRest told wal
  pub since : origin.since ≤ moment wal.disk
