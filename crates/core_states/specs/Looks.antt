-- What the answer of a look tells.
use Rattle.std.specs.Prelude.{◌≡◌, ◌≢◌, ℕ, ◌<◌, ◌≤◌, true, false}
use Rattle.graph_model.specs.declared.record.Record.{Record}
use Rattle.graph_model.specs.Records.{changes_vertex}
use Rattle.vertex_locks.specs.declared.answer.Look.TheVariants.{Taken, Held, Conflict}
use Rattle.core_rows.specs.Rows.{lock_answer}
use Rattle.core_states.specs.declared.transaction.Receipt.{Receipt}
use Rattle.core_states.specs.declared.transaction.Transaction.{Transaction}
use Rattle.core_states.specs.Names.{Name}
use Rattle.core_states.specs.Numbers.{has_number}
use Rattle.core_states.specs.Transactions.{is_working}
use Rattle.core_states.specs.States.{State}
use Rattle.core_states.specs.Records.{In}
use Rattle.core_states.specs.Sound.{RunsAt, IsRun, InReceipts, WasChanged}

-- A look of a transaction that works takes the lock, or finds it its own: the transaction sees every record that changed the vertex, and no other transaction that works took it.
pub record TakenTells (s : State) (i : Name) (x : Transaction) (v : ℕ) : Type 0 where
  pub current : (r : Record) → In r s.clock.records → changes_vertex v r ≡ true → r.epoch ≤ x.read
  pub alone : (j : Name) (y : Transaction) → RunsAt s j y → j ≢ i → is_working y ≡ true → has_number v y.touched ≡ false

-- It finds another owner: that one runs, took the vertex, and has no receipt, and no record that the transaction sees.
pub record HeldTells (s : State) (x : Transaction) (v u : ℕ) : Type 0 where
  pub other : u ≢ x.tid
  pub run : IsRun s u
  pub later : (r : Record) → In r s.clock.records → r.tid ≡ u → x.read < r.epoch
  pub touched : has_number v run.txn.touched ≡ true
  pub no_receipt : (j : Name) (r : Receipt) → InReceipts r (s.actor j).receipts → r.tid ≢ u

-- It finds a conflict: the epoch is after the snapshot, a record of it changed the vertex, none that changed the vertex is of a later one, and no transaction that works took the vertex.
pub record ConflictTells (s : State) (x : Transaction) (v e : ℕ) : Type 0 where
  pub late : x.read < e
  pub changed : WasChanged s v e
  pub free : (j : Name) (y : Transaction) → RunsAt s j y → is_working y ≡ true → has_number v y.touched ≡ false
  pub newest : (r : Record) → In r s.clock.records → changes_vertex v r ≡ true → r.epoch ≤ e

-- What each answer of a look of a transaction that runs tells.
pub record LooksTell (s : State) : Type 0 where
  pub taken : (i : Name) (x : Transaction) (v : ℕ) → RunsAt s i x → is_working x ≡ true → lock_answer (s.row v) x.tid x.read ≡ Taken → TakenTells s i x v
  pub held : (i : Name) (x : Transaction) (v u : ℕ) → RunsAt s i x → lock_answer (s.row v) x.tid x.read ≡ Held u → HeldTells s x v u
  pub conflict : (i : Name) (x : Transaction) (v e : ℕ) → RunsAt s i x → lock_answer (s.row v) x.tid x.read ≡ Conflict e → ConflictTells s x v e
