-- What is noted of a log: what it had when it was opened, and what was appended and tried since.
use Rattle.std.specs.Prelude.{◌≡◌, ℕ, ◌+◌, ◌<◌, Bool, true, false, List, [], ◌∷◌, ◌++◌, length, map, Option, Some, None}
use Rattle.graph_model.specs.declared.record.Record.{Record}
use Rattle.graph_wal.specs.Appends.{Durable, durable_group, Tried, tried, all_records}
use Rattle.core_states.specs.declared.disk_records.DiskRecords.{DiskRecords}
use Rattle.core_states.specs.LogParts.{Firmness}
use Rattle.core_states.specs.Records.{AllAt}

-- the records that a log had when it was opened, the last epoch then, the moment from which on a crash leaves them, and
-- whether nothing stood behind its last gate
pub record Origin : Type 0 where
  pub since : ℕ
  pub base : List Record
  pub epoch : ℕ
  pub no_rest : Bool

-- how firm the log was
abbrev pub firmness_of : Origin → Firmness
firmness_of origin = record { since = origin.since; no_rest = origin.no_rest }

-- that, the groups that are durable behind them, and those that were tried, newest first
pub record Written : Type 0 where
  pub origin : Origin
  pub groups : List Durable
  pub failed : List Tried

-- a log as it was opened
abbrev pub begun : Origin → Written
begun origin = record { origin = origin; groups = []; failed = [] }

abbrev pub nothing_written : Written
nothing_written = begun (record { since = 0; base = []; epoch = 0; no_rest = false })

-- with one group more, which is durable from a moment on
abbrev pub more_durable : List Record → ℕ → Written → Written
more_durable rs moment w = record w { groups = w.groups ++ durable_group rs moment ∷ [] }

-- with one group more that was tried behind the durable ones
abbrev pub more_tried : List Record → Written → Written
more_tried rs w = record w { failed = tried (length w.groups) rs ∷ w.failed }

-- all records that are durable
abbrev pub durable_records : Written → List Record
durable_records w = all_records w.origin.base w.groups

-- the attempt that stands, where one does: the group that was tried last
abbrev pub last_tried : List Tried → Option (List Record)
last_tried [] = None
last_tried (t ∷ failed) = Some t.group

abbrev pub standing : Bool → List Tried → Option (List Record)
standing true failed = None
standing false failed = last_tried failed

-- the moments of the groups that are durable, and the groups that were tried
abbrev pub moments_of : List Durable → List ℕ
moments_of groups = map (λ g. g.moment) groups

abbrev pub groups_of : List Tried → List (List Record)
groups_of failed = map (λ t. t.group) failed

-- what is on the disk, where it tells its bytes
abbrev pub disk_of : Option (List ℕ) → Bool → Written → Option DiskRecords
disk_of None mended w = None
disk_of (Some bytes) mended w = Some (record { opened = w.origin.base; durable = durable_records w; moments = moments_of w.groups; attempt = standing mended w.failed; tried = groups_of w.failed })

-- The groups are of the epochs that follow one, each with at least one record.
abbrev pub AreOfEpochs : ℕ → List Durable → Type 0
AreOfEpochs epoch [] = Unit {0}
AreOfEpochs epoch (g ∷ groups) = AllAt (epoch + 1) g.group × (0 < length g.group) × AreOfEpochs (epoch + 1) groups

-- Each group that was tried was of the epoch after those that were durable then.
abbrev pub AreTriedNext : ℕ → List Tried → Type 0
AreTriedNext epoch [] = Unit {0}
AreTriedNext epoch (t ∷ failed) = AllAt (epoch + t.behind + 1) t.group × AreTriedNext epoch failed

-- What is noted is of the epochs from the first one on, up to this last durable one.
pub record IsInEpochs (durable : ℕ) (w : Written) : Type 0 where
  pub count : durable ≡ w.origin.epoch + length w.groups
  pub groups : AreOfEpochs w.origin.epoch w.groups
  pub failed : AreTriedNext w.origin.epoch w.failed
