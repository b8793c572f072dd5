-- What a close of the store tells.
use Rattle.std.specs.Prelude.{◌≡◌, ℕ, ◌+◌, ◌≤◌, true, List, ◌++◌, length, flat_map, Option, Some, None, is_some, IfSome, OnOk, IfErr}
use Rattle.io_edges.specs.Faults.{Rose}
use Rattle.graph_model.specs.declared.graph.Base.{Base}
use Rattle.graph_model.specs.declared.record.Record.{Record}
use Rattle.graph_model.specs.Records.{Continues, last_epoch}
use Rattle.disk_model.specs.Images.{EachImage, Only}
use Rattle.group_codec.specs.Log.{Recovers}
use Rattle.graph_wal.specs.Appends.{AreDurableBy, MayLeave}
use Rattle.core_states.specs.Durability.{NeverFall, AllBy}
use Rattle.core_states.specs.Faults.{AllFailed}
use Rattle.core_states.specs.LogParts.{Found}
use Rattle.core_states.specs.Names.{Name}
use Rattle.core_states.specs.Parts.{Parts, state_of_parts}
use Rattle.turn_board.specs.Views.{Done, View, EachSeen, start_of}
use Rattle.turn_board.specs.Histories.{Reached, Began}
use Rattle.turn_board.specs.Turns.{IsOpened, IsOwn}
use Rattle.store_log.specs.Written.{Written, IsInEpochs, firmness_of, moments_of, groups_of}
use Rattle.graph_store.specs.declared.closing.Closed.{Closed}

-- A run of events led to these parts, under the limits and on the disk that the pass knows; each actor is as the pass has it, and did in the run what the pass has noted; and no pass did anything before those that it was split off from had done what they had noted by then.
pub record IsRunOf (v : View) (parts : Parts) (run : List Done) : Type 0 where
  pub reached : Reached v.base parts run
  pub opened : IsOpened v parts
  pub own : (n : Name) → IsOwn n v parts run
  pub began : EachSeen (Began (start_of v) run) v.origins

-- The records continue the base. Each epoch behind the base's has its moment; the moments never fall, and none is after the last one.
pub record HasEpochs (base : Base) (records : List Record) (moments : List ℕ) (last : ℕ) : Type 0 where
  pub continues : Continues base records
  pub count : base.epoch + length moments ≡ last_epoch base.epoch records
  pub rise : NeverFall moments
  pub past : AllBy last moments

-- The disk has what was found there, as firm as it was, and the groups behind it, whose records and moments are those of the store; a crash since the log was opened leaves what was noted of it; and after the last mending a read gives the log of all records, and a crash leaves that.
pub record IsLogged {D : Type 0} (told : D → Option (List ℕ)) (moment : D → ℕ) (images : D → ℕ → List ℕ → Type 0) (f : Found) (w : Written) (closed : Closed D) : Type 0 where
  pub tells : is_some (told closed.disk) ≡ is_some f.records
  pub found : IfSome (told closed.disk) (λ _. f.records ≡ Some w.origin.base)
  pub firm : f.firm ≡ firmness_of w.origin
  pub all : IfSome (told closed.disk) (λ _. flat_map (λ g. g.group) w.groups ≡ closed.records)
  pub moments : IfSome (told closed.disk) (λ _. moments_of w.groups ≡ closed.durable_at)
  pub past : AreDurableBy closed.last_moment w.groups
  pub in_time : closed.last_moment ≤ moment closed.disk
  pub since : w.origin.since ≤ moment closed.disk
  pub crash : IfSome (told closed.disk) (λ _. EachImage moment images closed.disk w.origin.since (MayLeave w.origin.base w.groups w.failed))
  pub settled : OnOk closed.mended (IfSome (told closed.disk) (λ bytes. Only bytes (images closed.disk (moment closed.disk)) × Recovers bytes (w.origin.base ++ closed.records) closed.durable_length))
  pub no_rest : OnOk closed.mended (w.origin.no_rest ≡ true → IfSome (told closed.disk) (λ bytes. length bytes ≡ closed.durable_length))

-- What was closed is what the parts of the run say: its records and their moments, the last moment, and the last durable epoch; each record of a group that was tried is that of a failed transaction; nobody leads a commit, and what the log's faults were counted to is at most the disk's count.
pub record IsClosed {D : Type 0} (told : D → Option (List ℕ)) (moment : D → ℕ) (images : D → ℕ → List ℕ → Type 0) (faults : D → ℕ) (v : View) (parts : Parts) (run : List Done) (w : Written) (closed : Closed D) : Type 0 where
  pub ran : IsRunOf v parts run
  pub records : closed.records ≡ parts.clock.records
  pub moments : closed.durable_at ≡ parts.clock.moments
  pub last_moment : closed.last_moment ≡ parts.log.moment
  pub epochs : HasEpochs v.base closed.records closed.durable_at closed.last_moment
  pub logged : IsLogged told moment images v.found w closed
  pub groups : IsInEpochs (last_epoch v.base.epoch closed.records) w
  pub failed : IfSome (told closed.disk) (λ _. AllFailed (state_of_parts v.base parts) (groups_of w.failed))
  pub idle : parts.log.holder ≡ None
  pub counted : parts.log.greatest ≤ faults closed.disk
  pub disk_fault : IfErr closed.mended (λ e. (parts.log.greatest ≤ e.before) × Rose e.before e.after × (e.after ≡ faults closed.disk))
