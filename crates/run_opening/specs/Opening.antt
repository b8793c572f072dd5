-- How the opening of a run ends.
use Rattle.std.specs.Prelude.{◌≡◌, ℕ, ◌+◌, ◌<◌, ◌≤◌, ◌^◌, List, length, Option, IfSome}
use Rattle.io_edges.specs.Faults.{Rose}
use Rattle.io_edges.specs.Reads.{TookCount}
use Rattle.graph_model.specs.declared.record.Record.{Record}
use Rattle.graph_model.specs.declared.graph.Base.{Base}
use Rattle.graph_model.specs.Records.{Lawful}
use Rattle.disk_model.specs.Images.{Only, EachImage}
use Rattle.group_codec.specs.Log.{Recovers}
use Rattle.graph_wal.specs.Log.{RecoversTo}
use Rattle.graph_recover.specs.Bases.{base_of}
use Rattle.log_commands.specs.declared.status.Status.{Status}
use Rattle.log_commands.specs.declared.status.Status.TheVariants as status
use Rattle.log_commands.specs.Opening.{HasLog, Unopened}
use Rattle.run_opening.specs.Script.{script_most, ReadNoScript}
use Rattle.run_opening.specs.Moments.{TellsNoRest, KeepsImages, KeepsRecords, IsSettledTo}

-- The disk holds a log.
abbrev pub IsLog : Option (List ℕ) → Type 0
IsLog told = (records : List Record) × (durable : ℕ) × (size : ℕ) × HasLog told records durable size

-- Why no request has run: no log was opened, or one was, and the script was not read.
abbrev pub Unrun : Status → Option (List ℕ) → Option (List ℕ) → ℕ → ℕ → Option (List ℕ) → ℕ → ℕ → Type 0
Unrun (status.BadScript line column) left left' faults faults' told entry exit = IsLog told × ReadNoScript left left' line column
Unrun status.ReadFault left left' faults faults' told entry exit = IsLog told × Rose faults faults'
Unrun status.ScriptTooLong left left' faults faults' told entry exit = IsLog told × TookCount left left' (script_most + 1)
Unrun s left left' faults faults' told entry exit = Unopened s told entry exit

-- The status may come after the log was cut.
abbrev pub MayBeCut : Status → Type 0
MayBeCut (status.DiskFault before after) = Unit {0}
MayBeCut status.NoMemory = Unit {0}
MayBeCut s = ⊥

-- What a run that is refused leaves of the disk: the same records in every image; where the log has no rest,
-- no image that was not one; and where it was not to be cut, its bytes as they were.
pub record IsKept {D : Type 0} (told : D → Option (List ℕ)) (moment : D → ℕ) (images : D → ℕ → List ℕ → Type 0) (old new : D) (s : Status) : Type 0 where
  pub records : KeepsRecords told moment images old new
  pub whole : TellsNoRest (told old) → KeepsImages moment images old new
  pub untouched : (MayBeCut s → ⊥) → (told new ≡ told old) × KeepsImages moment images old new

-- The log was opened: it has these records and this durable length, nothing stands behind it, and it is firm. A
-- run on it starts from this base.
pub record IsOpened {D : Type 0} (told : D → Option (List ℕ)) (moment : D → ℕ) (images : D → ℕ → List ℕ → Type 0) (old new : D) (records : List Record) (base : Base) (durable : ℕ) : Type 0 where
  pub lawful : Lawful records
  pub base_is : base ≡ base_of records
  pub long : 9 ≤ durable
  pub short : durable < 2 ^ 63
  pub was : IfSome (told old) (RecoversTo records)
  pub firm : IfSome (told new) (λ b. Only b (images new (moment new)) × Recovers b records durable × (length b ≡ durable))
  pub kept : KeepsRecords told moment images old new
  pub kept_whole : TellsNoRest (told old) → KeepsImages moment images old new
  pub settled : IsSettledTo told moment images old records → IfSome (told new) (λ _. EachImage moment images new (moment old) (λ _ c. RecoversTo records c))
