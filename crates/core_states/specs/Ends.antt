-- What stands once no transaction runs.
use Rattle.std.specs.Prelude.{◌≡◌, ℕ, true, Some, None}
use Rattle.graph_model.specs.declared.record.Record.{Record}
use Rattle.core_states.specs.declared.transaction.End.TheVariants.{CommittedAt}
use Rattle.core_states.specs.declared.transaction.Receipt.{Receipt}
use Rattle.core_states.specs.Names.{Name}
use Rattle.core_states.specs.States.{State}
use Rattle.core_states.specs.Numbers.{has_number, outcome_of}
use Rattle.core_states.specs.Records.{In}
use Rattle.core_states.specs.Sound.{InReceipts, WasHeld, HasFault}
use Rattle.graph_model.specs.declared.record.Outcome.TheVariants.{Failed}

-- No transaction runs.
abbrev pub Idle : State → Type 0
Idle s = (i : Name) → (s.actor i).txn ≡ None

-- A record has a receipt, which says that it was committed at its epoch.
pub record HasReceipt (s : State) (r : Record) : Type 0 where
  pub actor : Name
  pub receipt : Receipt
  pub among : InReceipts receipt (s.actor actor).receipts
  pub number : receipt.tid ≡ r.tid
  pub ends : receipt.ends ≡ CommittedAt r.epoch

-- A holder that was found, of this number, has a receipt, which touched the vertex.
pub record HolderEnded (s : State) (v t : ℕ) : Type 0 where
  pub actor : Name
  pub receipt : Receipt
  pub among : InReceipts receipt (s.actor actor).receipts
  pub number : receipt.tid ≡ t
  pub touched : has_number v receipt.touched ≡ true

-- All is told by receipts: each record, each failed record with its counts, and each holder.
pub record AllEnded (s : State) : Type 0 where
  pub records : (r : Record) → In r s.clock.records → HasReceipt s r
  pub faults : (t b a : ℕ) → outcome_of t s.clock.outcomes ≡ Some (Failed b a) → HasFault s t b a
  pub holders : (v t read : ℕ) → WasHeld s v t read → HolderEnded s v t
