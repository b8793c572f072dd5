-- What the log of a script that was run has, what a crash may leave of it, and what the replies tell of its faults.
use Rattle.std.specs.Prelude.{◌≡◌, ℕ, ◌≤◌, ◌<◌, true, List, [], ◌∷◌, ◌++◌, length, flat_map, Option, Result, Ok, Err, IfSome, OnOk, IfErr}
use Rattle.io_edges.specs.Faults.{Rose}
use Rattle.graph_model.specs.declared.record.Record.{Record}
use Rattle.graph_model.specs.Records.{group_most}
use Rattle.graph_legal.specs.Lines.{Replied}
use Rattle.disk_model.specs.Images.{EachImage, Only, StillTells}
use Rattle.group_codec.specs.Log.{Recovers}
use Rattle.graph_wal.specs.Appends.{Durable, Tried, AreDurableBy, MayLeave}
use Rattle.graph_wal.specs.declared.disk_fault.DiskFault.{DiskFault}
use Rattle.core_states.specs.Durability.{SpansApart}
use Rattle.core_states.specs.Records.{In}
use Rattle.store_log.specs.Written.{Origin, AreOfEpochs, AreTriedNext, moments_of}
use Rattle.graph_workers.specs.Faults.{log_faults, IsToldFailed}
use Rattle.graph_store.specs.declared.closing.Closed.{Closed}

-- Each record of the groups that were tried is that of a transaction which a line tells as `log-fault`.
abbrev pub AreTold : List Tried → List Replied → Type 0
AreTold [] lines = Unit {0}
AreTold (t ∷ failed) lines = ((r : Record) → In r t.group → (b : ℕ) × (a : ℕ) × IsToldFailed b a r lines) × AreTold failed lines

-- The log has the records in groups, each of one epoch, durable from its moment on; what was tried in vain are groups of transactions that were answered `log-fault`. A crash at any moment since the one at opening leaves what was there and the groups that were durable then, with one group more at most; after the last mending it leaves all records and nothing else. Of its bytes it says so where the disk tells them.
pub record IsInLog {D : Type 0} (told : D → Option (List ℕ)) (moment : D → ℕ) (images : D → ℕ → List ℕ → Type 0) (origin : Origin) (epoch : ℕ) (lines : List Replied) (closed : Closed D) : Type 0 where
  pub groups : List Durable
  pub failed : List Tried
  pub all : IfSome (told closed.disk) (λ _. flat_map (λ g. g.group) groups ≡ closed.records)
  pub moments : IfSome (told closed.disk) (λ _. moments_of groups ≡ closed.durable_at)
  pub epochs : IfSome (told closed.disk) (λ _. AreOfEpochs epoch groups)
  pub next : IfSome (told closed.disk) (λ _. AreTriedNext epoch failed)
  pub answered : IfSome (told closed.disk) (λ _. AreTold failed lines)
  pub past : AreDurableBy closed.last_moment groups
  pub in_time : closed.last_moment ≤ moment closed.disk
  pub crash : IfSome (told closed.disk) (λ _. EachImage moment images closed.disk origin.since (MayLeave origin.base groups failed))
  pub settled : OnOk closed.mended (IfSome (told closed.disk) (λ bytes. Only bytes (images closed.disk (moment closed.disk)) × Recovers bytes (origin.base ++ closed.records) closed.durable_length))
  pub no_rest : OnOk closed.mended (origin.no_rest ≡ true → IfSome (told closed.disk) (λ bytes. length bytes ≡ closed.durable_length))

-- the count of faults before the last mending: the one that its fault tells, or that at the end
abbrev pub count_before : Result (Unit {0}) DiskFault → ℕ → ℕ
count_before (Ok done) count = count
count_before (Err fault) count = fault.before

-- The counts of each `log-fault` are those round the append of a group, between the count at entry and that before the last mending: two have the same counts or spans that do not overlap, and no more have the same than records may stand in a group. The fault of the last mending tells its own.
pub record CountFaults (entry exit : ℕ) (mended : Result (Unit {0}) DiskFault) (lines : List Replied) : Type 0 where
  pub rose : (before after : ℕ) → 0 < log_faults before after lines → (entry ≤ before) × (before < after) × (after ≤ count_before mended exit)
  pub apart : (before after m n : ℕ) → 0 < log_faults before after lines → 0 < log_faults m n lines → SpansApart before after m n
  pub few : (before after : ℕ) → log_faults before after lines ≤ group_most
  pub mending : IfErr mended (λ e. (entry ≤ e.before) × Rose e.before e.after × (e.after ≡ exit))

-- The disk tells its bytes if it did, and neither its count of faults nor its moment fell below what they were.
pub record HasGoneOn {D : Type 0} (told : D → Option (List ℕ)) (moment : D → ℕ) (faults : D → ℕ) (since : ℕ) (old new : D) : Type 0 where
  pub tells : StillTells (told old) (told new)
  pub later : since ≤ moment new
  pub count : faults old ≤ faults new
