-- What the calls of the log's value make of the core's log part.
use Rattle.std.specs.Prelude.{◌≡◌, ℕ, ◌+◌, ◌<◌, ◌≤◌, true, false, List, [], ◌∷◌, ◌++◌, length, Option, Some, None}
use Rattle.graph_model.specs.declared.record.Record.{Record}
use Rattle.graph_model.specs.Records.{Lawful, number_end}
use Rattle.group_commit.specs.Encoded.{Encoded}
use Rattle.group_commit.specs.Members.{records_at}
use Rattle.graph_wal.specs.Pieces.{AreWithin}
use Rattle.core_states.specs.Parts.{OfLog, actor_of}
use Rattle.turn_board.specs.Views.{View, In, numbers}
use Rattle.core_states.specs.declared.disk_records.DiskRecords.{DiskRecords}
use Rattle.graph_model.specs.declared.graph.Base.{Base}
use Rattle.graph_recover.specs.Bases.{base_of}
use Rattle.core_states.specs.Names.{Name}
use Rattle.core_states.specs.LogParts.{LogPart, with_durable, with_attempt, without_attempt}

-- the group of these records is durable, and its append answered at a moment
abbrev pub with_group : ℕ → List Record → LogPart → LogPart
with_group moment rs log = record log { durable = log.durable + 1; moment = moment; disk = with_durable moment rs log.disk }

-- the append of the group of these records met a fault, after which the count is this
abbrev pub with_fault : ℕ → List Record → LogPart → LogPart
with_fault after rs log = record log { mended = false; greatest = after; disk = with_attempt rs log.disk }

-- the failed attempt is gone
abbrev pub without_fault : LogPart → LogPart
without_fault log = record log { mended = true; disk = without_attempt log.disk }

-- These records may stand behind the durable ones, where the disk tells its bytes.
abbrev pub MayWrite : LogPart → List Record → Type 0
MayWrite log rs = (d : DiskRecords) → log.disk ≡ Some d → Lawful (d.durable ++ rs)

-- the log part in the hands of an actor
abbrev pub in_hands : Name → LogPart → LogPart
in_hands i log = record log { holder = Some i }

-- The base is that of the log that a run found, where the disk tells its bytes.
abbrev pub IsBaseOf : Base → Option (List Record) → Type 0
IsBaseOf base None = Unit {0}
IsBaseOf base (Some records) = Lawful records × (base ≡ base_of records)

-- The members may be appended as the next group: they are some and within the limits, and lawful behind the durable
-- records; and the last durable epoch is within the numbers.
pub record CanAppend (log : LogPart) (members : List Encoded) : Type 0 where
  pub some : 0 < length members
  pub within : AreWithin members
  pub epoch : log.durable ≤ number_end
  pub lawful : MayWrite log (records_at (log.durable + 1) members)

-- The pass holds the log's turn alone, as an actor of its own has it in hands, which has collected these members and not
-- written them.
pub record HasCollected (shards : ℕ) (v : View) (n : Name) (log : LogPart) (members : List Encoded) : Type 0 where
  pub held : v.held ≡ record { turn = shards + 1; part = OfLog (in_hands n log) } ∷ []
  pub own : In n.pass (numbers v)
  pub group : (before : ℕ) × ((actor_of v.base v.actors n).group ≡ records_at before members)
  pub unwritten : (actor_of v.base v.actors n).written ≡ false
