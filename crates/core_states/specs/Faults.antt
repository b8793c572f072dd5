-- What is kept of a record whose group's append failed.
use Rattle.std.specs.Prelude.{◌≡◌, ◌⊎◌, ℕ, false, List, [], ◌∷◌, Option, Some, None}
use Rattle.graph_model.specs.declared.record.Record.{Record}
use Rattle.graph_model.specs.declared.record.Outcome.TheVariants.{Failed}
use Rattle.core_states.specs.declared.transaction.End.TheVariants.{Faulted}
use Rattle.core_states.specs.declared.disk_records.DiskRecords.{DiskRecords}
use Rattle.core_states.specs.declared.transaction.Receipt.{Receipt}
use Rattle.core_states.specs.declared.transaction.Transaction.{Transaction}
use Rattle.core_states.specs.Names.{Name}
use Rattle.core_states.specs.Numbers.{outcome_of}
use Rattle.core_states.specs.Records.{In}
use Rattle.core_states.specs.Sound.{RunsAt, InReceipts}
use Rattle.core_states.specs.States.{State}
use Rattle.core_states.specs.Transactions.{is_open}

-- The transaction of this record runs, with the record's number, read epoch and changes; its record was queued.
pub record RunsWith (s : State) (r : Record) : Type 0 where
  pub actor : Name
  pub txn : Transaction
  pub runs : RunsAt s actor txn
  pub queued : is_open txn.stage ≡ false
  pub number : txn.tid ≡ r.tid
  pub read : txn.read ≡ r.read
  pub changes : txn.own ≡ r.changes

-- It has ended, and its receipt, with the record's number, read epoch and changes, has the counts round the append.
pub record FaultedWith (s : State) (r : Record) (before after : ℕ) : Type 0 where
  pub actor : Name
  pub receipt : Receipt
  pub among : InReceipts receipt (s.actor actor).receipts
  pub number : receipt.tid ≡ r.tid
  pub read : receipt.read ≡ r.read
  pub changes : receipt.changes ≡ r.changes
  pub ends : receipt.ends ≡ Faulted before after

-- The record is that of a failed transaction.
abbrev pub FailedAs : State → ℕ → ℕ → Record → Type 0
FailedAs s before after r = (outcome_of r.tid s.clock.outcomes ≡ Some (Failed before after)) × (RunsWith s r ⊎ FaultedWith s r before after)

-- Each record of these groups is that of a failed transaction.
abbrev pub AllFailed : State → List (List Record) → Type 0
AllFailed s [] = Unit {0}
AllFailed s (g ∷ groups) = ((r : Record) → In r g → (b : ℕ) × (a : ℕ) × FailedAs s b a r) × AllFailed s groups

-- the groups that were tried on the disk in vain, where it tells its bytes
abbrev pub tried_on : Option DiskRecords → List (List Record)
tried_on None = []
tried_on (Some d) = d.tried

-- Each record that was tried on the disk in vain is that of a failed transaction.
abbrev pub TriedHaveFailed : State → Type 0
TriedHaveFailed s = AllFailed s (tried_on s.log.disk)
