-- How a run ends, and what it leaves.
use Rattle.std.specs.Prelude.{◌≡◌, ℕ, ◌<◌, ◌≤◌, ◌++◌, Bool, true, List, [], ◌∷◌, length, flat_map, Option, IfSome}
use Rattle.io_edges.specs.Faults.{Rose}
use Rattle.io_edges.specs.Writes.{Appended}
use Rattle.graph_model.specs.declared.record.Record.{Record}
use Rattle.graph_model.specs.Records.{Lawful, group_most}
use Rattle.disk_model.specs.Images.{Only, EachImage, GoesOn}
use Rattle.request_text.specs.declared.reply.Reply.{Reply}
use Rattle.graph_legal.specs.Lines.{Phase, Replied, history}
use Rattle.graph_legal.specs.Legal.{Legal}
use Rattle.graph_wal.specs.Log.{RecoversTo, IsWhole}
use Rattle.graph_wal.specs.Appends.{Durable, Tried, AreDurableBy, MayLeave}
use Rattle.graph_recover.specs.Bases.{base_of}
use Rattle.core_states.specs.Durability.{SpansApart}
use Rattle.store_log.specs.Written.{AreOfEpochs, AreTriedNext, moments_of}
use Rattle.graph_workers.specs.Faults.{log_faults}
use Rattle.graph_store.specs.Closing.{HasEpochs}
use Rattle.script_runs.specs.Logged.{AreTold, HasGoneOn}
use Rattle.log_commands.specs.declared.status.Status.{Status}
use Rattle.log_commands.specs.declared.status.Status.TheVariants as status
use Rattle.log_commands.specs.Status.{Printed}
use Rattle.run_opening.specs.Opening.{IsKept}
use Rattle.run_ending.specs.declared.ended.Report.{Report}

-- No request has run: this is why, and every image since recovers to what it did.
pub record Refused {D : Type 0} (told : D → Option (List ℕ)) (moment : D → ℕ) (images : D → ℕ → List ℕ → Type 0) (faults : D → ℕ) (old new : D) (s : Status) (Why : Type 0) : Type 0 where
  pub why : Why
  pub kept : IsKept told moment images old new s
  pub goes_on : GoesOn told moment images faults old new

-- the replies to the lines of all phases
abbrev pub all_replies : Report → List Reply
all_replies report = report.setup ++ report.replies

-- the lines of all phases with their replies
abbrev pub lines_of : List Phase → Report → List Replied
lines_of phases report = history phases (all_replies report)

-- The phases were run over the base of the records that the disk held, and the replies are legal for what committed.
pub record AreRun (told : Option (List ℕ)) (phases : List Phase) (base : List Record) (report : Report) : Type 0 where
  pub lawful : Lawful base
  pub was : IfSome told (RecoversTo base)
  pub base_is : report.base ≡ (base_of base).graph
  pub epoch_is : report.base_epoch ≡ (base_of base).epoch
  pub legal : Legal phases (base_of base) report.records (all_replies report)

-- The records stand in the log in groups, each of one epoch and durable from its moment on, and each record of a group
-- that was tried in vain is that of a transaction that a line tells as `log-fault`. Every image of every moment
-- since one that is none before the entry and none after the end recovers to the base's records and the groups that were
-- durable then, to these and the next one, or to these and one that was tried behind them; where a crash at entry left
-- what a read gives, that is so since the entry.
pub record CrashOk {D : Type 0} (told : D → Option (List ℕ)) (moment : D → ℕ) (images : D → ℕ → List ℕ → Type 0) (settled : Bool) (old new : D) (lines : List Replied) (base : List Record) (report : Report) : Type 0 where
  pub groups : List Durable
  pub failed : List Tried
  pub all : IfSome (told new) (λ _. flat_map (λ g. g.group) groups ≡ report.records)
  pub moments : IfSome (told new) (λ _. moments_of groups ≡ report.durable_at)
  pub epochs : IfSome (told new) (λ _. AreOfEpochs report.base_epoch groups)
  pub next : IfSome (told new) (λ _. AreTriedNext report.base_epoch failed)
  pub answered : IfSome (told new) (λ _. AreTold failed lines)
  pub one_each : HasEpochs (base_of base) report.records report.durable_at report.last_moment
  pub by_last : AreDurableBy report.last_moment groups
  pub by_now : report.last_moment ≤ moment new
  pub since : ℕ
  pub opened : moment old ≤ since
  pub by_end : since ≤ moment new
  pub at_entry : settled ≡ true → since ≡ moment old
  pub any_moment : IfSome (told new) (λ _. EachImage moment images new since (MayLeave base groups failed))

-- A crash leaves what a read gives and nothing else: the text of a log of the base's records and those of the run,
-- with no rest. The report has its length.
abbrev pub IsFinal : {D : Type 0} → (D → Option (List ℕ)) → (D → ℕ) → (D → ℕ → List ℕ → Type 0) → D → List Record → Report → Type 0
IsFinal told moment images new base report =
    IfSome (told new) (λ b. Only b (images new (moment new)) × IsWhole (base ++ report.records) b × (report.durable_length ≡ length b))

-- the count of faults before the last mending: the one that its fault tells, or that at the end
abbrev pub told_count : Status → ℕ → ℕ
told_count (status.DiskFault before after) count = before
told_count s count = count

-- No line was answered `log-fault`.
abbrev pub HasNoLogFault : List Replied → Type 0
HasNoLogFault lines = (before after : ℕ) → log_faults before after lines ≡ 0

-- The counts of each `log-fault` are counts of the disk's faults, from the one at entry to the one before the last
-- mending: two have the same counts or spans that do not overlap, and no more have the same than a group has records.
pub record TellFaults (entry exit : ℕ) (lines : List Replied) : Type 0 where
  pub rose : (before after : ℕ) → 0 < log_faults before after lines → (entry ≤ before) × (before < after) × (after ≤ exit)
  pub apart : (before after m n : ℕ) → 0 < log_faults before after lines → 0 < log_faults m n lines → SpansApart before after m n
  pub few : (before after : ℕ) → log_faults before after lines ≤ group_most

-- The requests of these phases have run over the base of these records.
pub record Ran {D : Type 0} (told : D → Option (List ℕ)) (moment : D → ℕ) (images : D → ℕ → List ℕ → Type 0) (faults : D → ℕ) (settled : Bool) (phases : List Phase) (base : List Record) (old new : D) (report : Report) (s : Status) : Type 0 where
  pub legal : AreRun (told old) phases base report
  pub crash : CrashOk told moment images settled old new (lines_of phases report) base report
  pub final : s ≡ status.Done → IsFinal told moment images new base report
  pub calm : (Rose (faults old) (faults new) → ⊥) → HasNoLogFault (lines_of phases report)
  pub faults_told : TellFaults (faults old) (told_count s (faults new)) (lines_of phases report)
  pub goes_on : HasGoneOn told moment faults (moment old) old new

-- What the status of a run says of the sink, and of the disk's count of faults: the text was printed, or a part of it,
-- or it was printed and the last mending of the log failed.
abbrev pub RanAs : Status → Option (List ℕ) → Option (List ℕ) → ℕ → ℕ → ℕ → ℕ → List ℕ → Type 0
RanAs (status.DiskFault before after) written written' faults faults' entry exit text =
    Appended written written' text × (entry ≤ before) × (after ≡ exit) × Rose before after
RanAs s written written' faults faults' entry exit text = Printed s written written' faults faults' text
