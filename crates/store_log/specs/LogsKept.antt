-- The value of the log's turn by its fields.
use Rattle.std.specs.Prelude.{◌≡◌, ◌≢◌, ℕ, ◌≤◌, true, false, List, [], Option, None, IfSome}
use Rattle.graph_model.specs.Records.{last_epoch}
use Rattle.graph_wal.specs.Appends.{AreDurableBy, HasAppended}
use Rattle.graph_wal.specs.Log.{HasNoRest}
use Rattle.core_states.specs.LogParts.{LogPart}
use Rattle.store_log.specs.Written.{durable_records, disk_of, firmness_of, IsInEpochs}
use Rattle.store_log.specs.LogValues.{LogValue, is_mended}
use Rattle.store_log.specs.declared.log_home.LogHome.TheInside.{Inside}

abbrev pub log_in : {D : Type 0} → (D → Option (List ℕ)) → Inside D → LogPart
log_in told a = record {
  holder = None;
  durable = a.durable;
  moment = a.moment;
  mended = is_mended a.wal.attempt;
  opening_count = a.opening_count;
  greatest = a.greatest;
  firm = firmness_of a.notes.value.origin;
  disk = disk_of (told a.wal.disk) (is_mended a.wal.attempt) a.notes.value;
}

abbrev pub log_value : {D : Type 0} → (D → Option (List ℕ)) → Inside D → LogValue D
log_value told a = record { log = log_in told a; wal = a.wal; written = a.notes.value }

-- The log has what is noted of it, each group of the next epoch up to the last durable one. Each group was durable at the last
-- moment, which is none after the disk's, and nor is that from which on a crash leaves what was there at opening. An attempt stands only where a group was tried; where none stands there is no
-- rest, if there was none at opening. The greatest count is at most the disk's.
pub record IsKept {D : Type 0} (told : D → Option (List ℕ)) (moment : D → ℕ) (images : D → ℕ → List ℕ → Type 0) (faults : D → ℕ) (a : Inside D) : Type 0 where
  pub appended : HasAppended told moment images a.wal a.notes.value.origin.since a.notes.value.origin.base a.notes.value.groups a.notes.value.failed
  pub epoch : IfSome (told a.wal.disk) (λ _. a.durable ≡ last_epoch 0 (durable_records a.notes.value))
  pub epochs : IsInEpochs a.durable a.notes.value
  pub past : AreDurableBy a.moment a.notes.value.groups
  pub in_time : a.moment ≤ moment a.wal.disk
  pub since : a.notes.value.origin.since ≤ moment a.wal.disk
  pub tried : is_mended a.wal.attempt ≡ false → a.notes.value.failed ≢ []
  pub no_rest : a.notes.value.origin.no_rest ≡ true → is_mended a.wal.attempt ≡ true → HasNoRest told a.wal
  pub counted : a.greatest ≤ faults a.wal.disk
