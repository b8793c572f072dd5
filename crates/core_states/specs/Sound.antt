-- What holds of every state of the core, whatever the events were: eight facts, by name.
use Rattle.std.specs.Prelude.{◌≡◌, ◌⊎◌, ℕ, ◌≤◌, ◌<◌, true, false, if◌then◌else◌, List, [], ◌∷◌, length, Option, Some, None}
use Rattle.graph_model.specs.declared.graph.Base.{Base}
use Rattle.graph_model.specs.declared.record.Record.{Record}
use Rattle.graph_model.specs.declared.record.Outcome.{Outcome}
use Rattle.graph_model.specs.declared.record.Outcome.TheVariants.{Committed, Failed}
use Rattle.graph_model.specs.Vertex.{Vertex}
use Rattle.graph_model.specs.Graph.{vertex_at, pairs_in, at, after}
use Rattle.graph_model.specs.Records.{Continues, changes_vertex, last_epoch}
use Rattle.stamps.specs.Stamps.{Nobody, Txn}
use Rattle.edge_log.specs.Entries.{shown}
use Rattle.edge_log.specs.Places.{oldest}
use Rattle.edge_log.specs.Contents.{HasTailOf}
use Rattle.vertex_versions.specs.Versions.{payload_at}
use Rattle.vertex_locks.specs.declared.answer.Look.{Look}
use Rattle.vertex_locks.specs.declared.answer.Look.TheVariants.{Taken, Held, Conflict}
use Rattle.core_rows.specs.Rows.{fresh_row, log_at}
use Rattle.core_states.specs.declared.transaction.Stage.TheVariants.{Decided}
use Rattle.core_states.specs.declared.transaction.Transaction.{Transaction}
use Rattle.core_states.specs.declared.transaction.End.{End}
use Rattle.core_states.specs.declared.transaction.End.TheVariants.{CommittedAt, Faulted, HeldBy, ConflictAt, Without}
use Rattle.core_states.specs.declared.transaction.Receipt.{Receipt}
use Rattle.core_states.specs.declared.actor.LastLook.{LastLook}
use Rattle.core_states.specs.Draws.{TidsDrawn, VerticesDrawn}
use Rattle.core_states.specs.Durability.{Durability}
use Rattle.core_states.specs.Names.{Name}
use Rattle.core_states.specs.Numbers.{least, has_number, has_record, has_active, outcome_of}
use Rattle.core_states.specs.Transactions.{holds, is_open}
use Rattle.row_pasts.specs.RowFits.{StampsFit, VersionsFit, createds, none_private}
use Rattle.core_states.specs.Records.{In, records_but}
use Rattle.core_states.specs.Touches.{touched_in}
use Rattle.core_states.specs.States.{State}

-- An actor runs this transaction.
abbrev pub RunsAt : State → Name → Transaction → Type 0
RunsAt s i x = (s.actor i).txn ≡ Some x

-- A transaction of this number runs.
pub record IsRun (s : State) (t : ℕ) : Type 0 where
  pub actor : Name
  pub txn : Transaction
  pub runs : RunsAt s actor txn
  pub number : txn.tid ≡ t

-- An actor keeps this receipt.
abbrev pub InReceipts : Receipt → List Receipt → Type 0
InReceipts r [] = ⊥
InReceipts r (x ∷ xs) = (r ≡ x) ⊎ InReceipts r xs

-- **History.** The records continue the base by every rule of a list of records, and the last epoch is theirs. Each number that was drawn, of a transaction or a vertex, has one actor.
pub record History (base : Base) (s : State) : Type 0 where
  pub continues : Continues base s.clock.records
  pub last : s.clock.last ≡ last_epoch base.epoch s.clock.records
  pub tids : TidsDrawn base s
  pub vertices : VerticesDrawn base s
  -- what an actor may still use it drew, and no row has it
  pub unused : (i : Name) (x : Transaction) → RunsAt s i x → (v : ℕ) → has_number v x.drawn ≡ true → s.row v ≡ fresh_row
  pub reads : (i : Name) (x : Transaction) → RunsAt s i x → base.epoch ≤ x.read

-- A record is applied at a vertex that it changed: the vertex's committed epoch has come to it.
abbrev pub IsApplied : State → Record → ℕ → Type 0
IsApplied s r v = r.epoch ≤ (s.row v).committed

-- **Visibility.** New transactions read no epoch of which a record is not applied. Where a published record is not applied, its transaction runs and owns the vertex.
pub record Visibility (s : State) : Type 0 where
  pub visible : s.clock.visible ≤ s.clock.last
  pub applied : (r : Record) (v : ℕ) → In r s.clock.records → changes_vertex v r ≡ true → r.epoch ≤ s.clock.visible → IsApplied s r v
  pub owned : (r : Record) (v : ℕ) → In r s.clock.records → changes_vertex v r ≡ true → IsApplied s r v ⊎ (((s.row v).owner ≡ Some r.tid) × IsRun s r.tid)

-- **Readers.** The active rows are the transactions that run. What an actor learnt of them was never too high.
pub record Readers (s : State) : Type 0 where
  pub active : (t e : ℕ) → has_active t e s.clock.rows ≡ true → (run : IsRun s t) × (run.txn.read ≡ e)
  pub rows : (i : Name) (x : Transaction) → RunsAt s i x → has_active x.tid x.read s.clock.rows ≡ true
  pub reads : (i : Name) (x : Transaction) → RunsAt s i x → x.read ≤ s.clock.visible
  -- the horizon is the least read epoch of the active rows, or the visible epoch
  pub below : (i : Name) (x : Transaction) → RunsAt s i x → least s.clock.visible s.clock.rows ≤ x.read
  pub reached : (least s.clock.visible s.clock.rows ≡ s.clock.visible) ⊎ ((t : ℕ) × (has_active t (least s.clock.visible s.clock.rows) s.clock.rows ≡ true))
  pub horizon : (i j : Name) (x : Transaction) → RunsAt s j x → (s.actor i).learnt.horizon ≤ x.read
  pub horizon_visible : (i : Name) → (s.actor i).learnt.horizon ≤ s.clock.visible
  pub oldest : (i j : Name) (x : Transaction) → RunsAt s j x → (s.actor i).learnt.oldest ≤ x.tid
  pub oldest_next : (i : Name) → (s.actor i).learnt.oldest ≤ s.clock.next_tid

-- the epoch of the last of these records that changed a vertex, or this one
abbrev pub last_change : ℕ → ℕ → List Record → ℕ
last_change e v [] = e
last_change e v (r ∷ records) = if changes_vertex v r then last_change r.epoch v records else last_change e v records

-- the epoch of the base for a vertex of it, else 0
abbrev pub base_epoch : Base → Option Vertex → ℕ
base_epoch base None = 0
base_epoch base (Some x) = base.epoch

-- **Ownership.** A transaction owns a vertex exactly where it took it and has neither undone nor applied it. What is in the vertex's row is of the past or its owner's.
pub record Ownership (base : Base) (s : State) : Type 0 where
  pub held : (i : Name) (x : Transaction) (v : ℕ) → RunsAt s i x → holds x v ≡ true → (s.row v).owner ≡ Some x.tid
  pub owns : (i : Name) (x : Transaction) (v : ℕ) → RunsAt s i x → (s.row v).owner ≡ Some x.tid → holds x v ≡ true
  pub owner : (v t : ℕ) → (s.row v).owner ≡ Some t → (run : IsRun s t) × ((s.row v).committed ≤ run.txn.read)
  -- the committed epoch is that of the last record that changed the vertex, but the owner's
  pub committed : (v : ℕ) → (s.row v).committed ≡ last_change (base_epoch base (vertex_at v base.graph)) v (records_but (s.row v).owner s.clock.records)
  -- each stamp is an epoch at most the committed one, none, or the owner's
  pub stamps : (v l : ℕ) → StampsFit (s.row v).committed (s.row v).owner (log_at (s.row v).logs l).entries
  pub versions : (v : ℕ) → VersionsFit (s.row v).committed (s.row v).owner (s.row v).versions
  -- the entries from the committed count on are the owner's, and no entry below is private
  pub tail : (v l t : ℕ) → (s.row v).owner ≡ Some t → HasTailOf t (log_at (s.row v).logs l)
  pub no_tail : (v l : ℕ) → (s.row v).owner ≡ None → (log_at (s.row v).logs l).committed ≡ length (log_at (s.row v).logs l).entries
  pub below : (v l : ℕ) → none_private (createds (oldest (log_at (s.row v).logs l).committed (log_at (s.row v).logs l).entries)) ≡ true

-- The vertex in the snapshot of an epoch, without what its owner's record did.
abbrev pub past_vertex : Base → State → ℕ → ℕ → Option Vertex
past_vertex base s v e = vertex_at v (at base.graph (records_but (s.row v).owner s.clock.records) e)

-- The vertex as its owner sees it: in its snapshot, without its own record, after its own changes.
abbrev pub own_vertex : Base → State → ℕ → Transaction → Option Vertex
own_vertex base s v x = vertex_at v (after x.own (at base.graph (records_but (s.row v).owner s.clock.records) x.read))

-- **EdgesShown.** The logs of a vertex show its lists: to nobody those of each epoch's snapshot, to its owner those with its own changes.
pub record EdgesShown (base : Base) (s : State) : Type 0 where
  pub others : (v e : ℕ) → base.epoch ≤ e → (n : Vertex) → past_vertex base s v e ≡ Some n → (l : ℕ) → shown (log_at (s.row v).logs l).entries e Nobody ≡ pairs_in n.lists l
  pub mine : (i : Name) (x : Transaction) (v : ℕ) → RunsAt s i x → (s.row v).owner ≡ Some x.tid → (n : Vertex) → own_vertex base s v x ≡ Some n → (l : ℕ) → shown (log_at (s.row v).logs l).entries x.read (Txn x.tid) ≡ pairs_in n.lists l
  -- without an owner no private stamp stands
  pub plain : (v l : ℕ) → (s.row v).owner ≡ None → StampsFit (s.row v).committed None (log_at (s.row v).logs l).entries

-- the payload of a vertex, where it is there
abbrev pub payload_of : Option Vertex → Option (List ℕ)
payload_of None = None
payload_of (Some n) = Some n.payload

-- **VersionsShown.** The versions show the payload, or that the vertex is absent.
pub record VersionsShown (base : Base) (s : State) : Type 0 where
  pub others : (v e : ℕ) → base.epoch ≤ e → payload_at (s.row v).versions e Nobody ≡ payload_of (past_vertex base s v e)
  pub mine : (i : Name) (x : Transaction) (v : ℕ) → RunsAt s i x → (s.row v).owner ≡ Some x.tid → payload_at (s.row v).versions x.read (Txn x.tid) ≡ payload_of (own_vertex base s v x)

-- a transaction, of this number, took the vertex, and has no record of an epoch at most `read`
pub record WasHeld (s : State) (v t read : ℕ) : Type 0 where
  pub actor : Name
  pub touched : touched_in (s.actor actor) t v ≡ true
  pub later : (r : Record) → In r s.clock.records → r.tid ≡ t → read < r.epoch

-- a record of this epoch changed the vertex
pub record WasChanged (s : State) (v e : ℕ) : Type 0 where
  pub record_is : Record
  pub among : In record_is s.clock.records
  pub epoch : record_is.epoch ≡ e
  pub changed : changes_vertex v record_is ≡ true

-- no record of this number is kept, queued or collected
pub record HasNoRecord (s : State) (t : ℕ) : Type 0 where
  pub records : has_record t s.clock.records ≡ false
  pub queue : has_record t s.clock.queue ≡ false
  pub groups : (i : Name) → has_record t (s.actor i).group ≡ false

-- A transaction of this number, whose record has failed, runs: its record was queued.
pub record WaitsStill (s : State) (t : ℕ) : Type 0 where
  pub run : IsRun s t
  pub queued : is_open run.txn.stage ≡ false

-- It has ended, and its receipt says so.
pub record HasFault (s : State) (t before after : ℕ) : Type 0 where
  pub actor : Name
  pub receipt : Receipt
  pub among : InReceipts receipt (s.actor actor).receipts
  pub number : receipt.tid ≡ t
  pub ends : receipt.ends ≡ Faulted before after

-- how a transaction of this number, read epoch and changes ended
abbrev pub EndAgrees : State → Receipt → End → Type 0
EndAgrees s r (CommittedAt e) = In (record { tid = r.tid; read = r.read; epoch = e; changes = r.changes }) s.clock.records
EndAgrees s r (Faulted b a) = HasNoRecord s r.tid × (outcome_of r.tid s.clock.outcomes ≡ Some (Failed b a))
EndAgrees s r (HeldBy v t) = HasNoRecord s r.tid × WasHeld s v t r.read
EndAgrees s r (ConflictAt v e) = HasNoRecord s r.tid × WasChanged s v e
EndAgrees s r Without = HasNoRecord s r.tid

-- what a last look found
abbrev pub LookAgrees : State → ℕ → ℕ → Look → Type 0
LookAgrees s read v Taken = Unit {0}
LookAgrees s read v (Held t) = WasHeld s v t read
LookAgrees s read v (Conflict e) = WasChanged s v e

-- **Receipts.** What is kept of transactions that ended, of looks and of outcomes agrees with the records.
pub record Receipts (s : State) : Type 0 where
  pub ends : (i : Name) (r : Receipt) → InReceipts r (s.actor i).receipts → EndAgrees s r r.ends
  pub looks : (i : Name) (x : Transaction) (look : LastLook) → RunsAt s i x → (s.actor i).looked ≡ Some look → LookAgrees s x.read look.v look.look
  pub learnt : (i : Name) (x : Transaction) (o : Outcome) → RunsAt s i x → x.stage ≡ Decided o → outcome_of x.tid s.clock.outcomes ≡ Some o
  pub committed : (r : Record) → In r s.clock.records → outcome_of r.tid s.clock.outcomes ≡ Some (Committed r.epoch)
  pub recorded : (t e : ℕ) → outcome_of t s.clock.outcomes ≡ Some (Committed e) → (r : Record) × In r s.clock.records × (r.tid ≡ t) × (r.epoch ≡ e)
  pub queued : (t : ℕ) → has_record t s.clock.queue ≡ true → outcome_of t s.clock.outcomes ≡ None
  pub collected : (i : Name) (t : ℕ) → has_record t (s.actor i).group ≡ true → outcome_of t s.clock.outcomes ≡ None
  pub failed : (t b a : ℕ) → outcome_of t s.clock.outcomes ≡ Some (Failed b a) → HasNoRecord s t × (WaitsStill s t ⊎ HasFault s t b a)

-- A state of the core is sound.
pub record Sound (base : Base) (s : State) : Type 0 where
  pub history : History base s
  pub visibility : Visibility s
  pub readers : Readers s
  pub ownership : Ownership base s
  pub edges_shown : EdgesShown base s
  pub versions_shown : VersionsShown base s
  pub receipts : Receipts s
  pub durability : Durability base s
