-- What an append of a group makes of the log part.
use Rattle.std.specs.Prelude.{◌≡◌, ℕ, ◌<◌, ◌≤◌, Bool, true, false, List, Result, Ok, Err}
use Rattle.graph_model.specs.declared.record.Record.{Record}
use Rattle.graph_wal.specs.declared.disk_fault.DiskFault.{DiskFault}
use Rattle.core_states.specs.LogParts.{LogPart}
use Rattle.store_log.specs.LogChanges.{with_group, with_fault, without_fault}
use Rattle.store_leads.specs.declared.appending.Tried.{Tried}

-- the log part, mended or not
abbrev pub mended_if : Bool → LogPart → LogPart
mended_if true log = without_fault log
mended_if false log = log

-- the group is durable, where no attempt stands; or its append met a fault of the disk
abbrev pub Answers : List Record → LogPart → Result ℕ DiskFault → LogPart → Type 0
Answers rs log (Ok m) log' = (log.mended ≡ true) × (log.moment ≤ m) × (log' ≡ with_group m rs log)
Answers rs log (Err e) log' = (e.before < e.after) × (log.greatest ≤ e.before) × (log' ≡ with_fault e.after rs log)

-- only a log on which an attempt stands is mended
abbrev pub Mends : Bool → LogPart → Type 0
Mends true log = log.mended ≡ false
Mends false log = Unit {0}

abbrev pub HasTried : List Record → LogPart → Tried → LogPart → Type 0
HasTried rs log t log' = Mends t.mended log × Answers rs (mended_if t.mended log) t.answer log'
