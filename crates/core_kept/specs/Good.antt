-- What every event keeps: the facts that the induction over the events goes by.
pub use Rattle.core_states.specs.Records.{In, AllAt, is_of, records_but}
use Rattle.std.specs.Prelude.{◌≡◌, ◌≢◌, ◌⊎◌, ℕ, ◌+◌, ◌≤◌, ◌<◌, Bool, true, false, if◌then◌else◌, ◌==◌, List, [], ◌∷◌, ◌++◌, length, Option, Some, None}
use Rattle.graph_model.specs.Places.{changes_about}
use Rattle.graph_model.specs.declared.graph.Base.{Base}
use Rattle.graph_model.specs.Vertex.{Vertex}
use Rattle.graph_model.specs.Graph.{vertex_at, pairs_in}
use Rattle.graph_model.specs.declared.change.Change.{Change}
use Rattle.graph_model.specs.declared.record.Outcome.{Outcome}
use Rattle.graph_model.specs.declared.record.Outcome.TheVariants.{Committed, Failed}
use Rattle.graph_model.specs.declared.record.Record.{Record}
use Rattle.core_rows.specs.Rows.{Row, fresh_row, Unborn, There}
use Rattle.row_pasts.specs.Lives.{Past, stamped}
use Rattle.core_states.specs.Names.{Name}
use Rattle.core_states.specs.Numbers.{has_active, has_number, outcome_of, has_record}
use Rattle.row_pasts.specs.RowFits.{Rooted, RowFits}
use Rattle.core_states.specs.States.{State}
use Rattle.core_states.specs.Transactions.{holds}
use Rattle.core_states.specs.declared.actor.Actor.{Actor}
use Rattle.core_states.specs.declared.actor.Learnt.{Learnt}
use Rattle.core_states.specs.declared.clock.Active.{Active}
use Rattle.core_states.specs.declared.clock.Clock.{Clock}
use Rattle.core_states.specs.declared.transaction.Stage.{Stage}
use Rattle.core_states.specs.declared.transaction.Stage.TheVariants.{Open, Queued, Decided}
use Rattle.core_states.specs.declared.transaction.Transaction.{Transaction}

-- what the base has of a vertex
abbrev pub root_at : ℕ → Option Vertex → Rooted
root_at e None = record { life = Unborn; lists = λ _. []; epoch = 0 }
root_at e (Some x) = record { life = There x.payload; lists = pairs_in x.lists; epoch = e }

abbrev pub root : Base → ℕ → Rooted
root base v = root_at base.epoch (vertex_at v base.graph)

-- The past of a vertex: the changes of all records but those of one number.
abbrev pub past_of : List Record → ℕ → Option ℕ → List Past
past_of [] v skip = []
past_of (r ∷ rs) v skip = if is_of skip r.tid then past_of rs v skip else stamped r.epoch (changes_about v r.changes) ++ past_of rs v skip

-- and the changes of the records of that number
abbrev pub part_of : List Record → ℕ → ℕ → List Past
part_of [] v t = []
part_of (r ∷ rs) v t = if r.tid == t then stamped r.epoch (changes_about v r.changes) ++ part_of rs v t else part_of rs v t

-- Where the record of a transaction number is.
pub data Place : Type 0 where
  Nowhere : Place
  InQueue : Place
  InGroup : (i : Name) → Place
  InLog : (e : ℕ) → Place
  InFault : (before after : ℕ) → Place

-- What the proofs know beside the state: the actor that drew a number, and where a number's record is.
pub record Ghost : Type 0 where
  pub who : ℕ → Name
  pub drawer : ℕ → Name
  pub place : ℕ → Place

-- The owner of a vertex.
pub record Owned (base : Base) (g : Ghost) (records : List Record) (actor : Name → Actor) (v : ℕ) (row : Row) (t : ℕ) : Type 0 where
  pub txn : Transaction
  pub is : (actor (g.who t)).txn ≡ Some txn
  pub tid : txn.tid ≡ t
  pub held : holds txn v ≡ true
  pub read : row.committed ≤ txn.read
  -- its record, where it is published, is the last one that changed the vertex
  pub last : past_of records v None ≡ past_of records v (Some t) ++ part_of records v t
  pub fits : RowFits base.epoch (root base v) (past_of records v (Some t)) (changes_about v txn.own) row

-- a row fits what the records, but its owner's, and its owner did to the vertex
abbrev pub RowOkBy : Option ℕ → Base → Ghost → List Record → (Name → Actor) → ℕ → Row → Type 0
RowOkBy None base g records actor v row = RowFits base.epoch (root base v) (past_of records v None) [] row
RowOkBy (Some t) base g records actor v row = Owned base g records actor v row t

abbrev pub RowOk : Base → Ghost → List Record → (Name → Actor) → ℕ → Row → Type 0
RowOk base g records actor v row = RowOkBy row.owner base g records actor v row

-- what is published of a transaction's changes
abbrev pub published : Place → List Change → List Past
published Nowhere cs = []
published InQueue cs = []
published (InGroup i) cs = []
published (InLog e) cs = stamped e cs
published (InFault b a) cs = []

-- what an actor knows of its record, and where the record is
abbrev pub StageOk : Stage → List ℕ → Place → Type 0
StageOk Open settled place = place ≡ Nowhere
StageOk Queued settled place = (settled ≡ []) × (place ≢ Nowhere)
StageOk (Decided (Committed e)) settled place = place ≡ InLog e
StageOk (Decided (Failed b a)) settled place = place ≡ InFault b a

-- A transaction of actor i: its number and read epoch are in their ranges, it has an active row, what it changed it took, and its record is where its stage says.
pub record TxnOk (base : Base) (g : Ghost) (k : Clock) (i : Name) (x : Transaction) : Type 0 where
  pub who : g.who x.tid ≡ i
  pub above : base.next_tid ≤ x.tid
  pub below : x.tid < k.next_tid
  pub read_above : base.epoch ≤ x.read
  pub read_below : x.read ≤ k.visible
  pub row : has_active x.tid x.read k.rows ≡ true
  pub touched : (v : ℕ) → has_number v x.touched ≡ false → changes_about v x.own ≡ []
  pub stage : StageOk x.stage x.settled (g.place x.tid)
  -- what is published of it are its changes; it is not done then, and its record is of an epoch after its snapshot
  pub record_is : (v : ℕ) → part_of k.records v x.tid ≡ published (g.place x.tid) (changes_about v x.own)
  pub pending : (e : ℕ) → g.place x.tid ≡ InLog e → has_active x.tid e k.pending ≡ true
  pub later : (e : ℕ) → g.place x.tid ≡ InLog e → x.read < e
  pub recorded : (e : ℕ) → g.place x.tid ≡ InLog e → In (record { tid = x.tid; read = x.read; epoch = e; changes = x.own }) k.records

-- A record that is queued or collected: its transaction waits.
pub record Waits (g : Ghost) (actor : Name → Actor) (at : Place) (r : Record) : Type 0 where
  pub txn : Transaction
  pub is : (actor (g.who r.tid)).txn ≡ Some txn
  pub tid : txn.tid ≡ r.tid
  pub read : txn.read ≡ r.read
  pub own : txn.own ≡ r.changes
  pub stage : txn.stage ≡ Queued
  pub place : g.place r.tid ≡ at

abbrev pub AllWait : Ghost → (Name → Actor) → Place → List Record → Type 0
AllWait g actor place [] = Unit {0}
AllWait g actor place (r ∷ rs) = Waits g actor place r × (has_record r.tid rs ≡ false) × AllWait g actor place rs

abbrev pub is_in_log : Place → Bool
is_in_log Nowhere = false
is_in_log InQueue = false
is_in_log (InGroup i) = false
is_in_log (InLog e) = true
is_in_log (InFault b a) = false

abbrev pub outcome_at : Place → Option Outcome
outcome_at Nowhere = None
outcome_at InQueue = None
outcome_at (InGroup i) = None
outcome_at (InLog e) = Some (Committed e)
outcome_at (InFault b a) = Some (Failed b a)

-- each pending record is above the visible epoch
abbrev pub AllAbove : ℕ → ℕ → List Active → Type 0
AllAbove low high [] = Unit {0}
AllAbove low high (x ∷ xs) = (low < x.epoch) × (x.epoch ≤ high) × AllAbove low high xs

-- the records, oldest first
abbrev pub RecordsOk : Base → Ghost → ℕ → List Record → Type 0
RecordsOk base g next [] = Unit {0}
RecordsOk base g next (r ∷ rs) =
    (g.place r.tid ≡ InLog r.epoch) × (base.next_tid ≤ r.tid) × (r.tid < next) × (base.epoch ≤ r.read) × (r.read < r.epoch) × (has_record r.tid rs ≡ false)
    × RecordsOk base g next rs

-- a drawn number that was not used
pub record Unused (base : Base) (g : Ghost) (k : Clock) (i : Name) (v : ℕ) (row : Row) : Type 0 where
  pub drawer : g.drawer v ≡ i
  pub above : base.next_vertex ≤ v
  pub below : v < k.next_vertex
  pub fresh : row ≡ fresh_row

-- A list of records that continues a base: groups of 1 to 64 records of one epoch, the epochs without a gap,
-- and of two that overlap no two changed one vertex.
abbrev pub Grouped : ℕ → List (List Record) → Type 0
Grouped e [] = Unit {0}
Grouped e (rs ∷ gs) = AllAt e rs × (0 < length rs) × (length rs ≤ 64) × Grouped (e + 1) gs

abbrev pub joined : List (List Record) → List Record
joined [] = []
joined (rs ∷ gs) = rs ++ joined gs

abbrev pub Apart : List Record → Type 0
Apart rs = (r s : Record) → In r rs → In s rs → r.tid ≢ s.tid → r.read < s.epoch → s.epoch ≤ r.epoch → (v : ℕ) → (changes_about v r.changes ≡ []) ⊎ (changes_about v s.changes ≡ [])

pub record ContinuesInGroups (base : Base) (last : ℕ) (records : List Record) : Type 0 where
  pub groups : List (List Record)
  pub are : joined groups ≡ records
  pub grouped : Grouped (base.epoch + 1) groups
  pub last_is : base.epoch + length groups ≡ last
  pub apart : Apart records

-- The transaction of an active row.
pub record IsActive (g : Ghost) (actor : Name → Actor) (t e : ℕ) : Type 0 where
  pub txn : Transaction
  pub is : (actor (g.who t)).txn ≡ Some txn
  pub tid : txn.tid ≡ t
  pub read : txn.read ≡ e

-- What an actor learnt bounds what is active.
pub record LearntOk (k : Clock) (l : Learnt) : Type 0 where
  pub visible : l.horizon ≤ k.visible
  pub reads : (t e : ℕ) → has_active t e k.rows ≡ true → l.horizon ≤ e
  pub next : l.oldest ≤ k.next_tid
  pub tids : (t e : ℕ) → has_active t e k.rows ≡ true → l.oldest ≤ t

-- The facts of the clock, the actors and the rows that each event keeps, given what is known beside the state.
pub record Good (base : Base) (g : Ghost) (s : State) : Type 0 where
  -- the epochs and the next numbers are at least the base's; what is not done is above the visible epoch
  pub low : base.epoch ≤ s.clock.visible
  pub visible : s.clock.visible ≤ s.clock.last
  pub next_tid : base.next_tid ≤ s.clock.next_tid
  pub next_vertex : base.next_vertex ≤ s.clock.next_vertex
  pub pending : AllAbove s.clock.visible s.clock.last s.clock.pending
  -- a number's record is in the log, and has its outcome, exactly where its place says so
  pub records : RecordsOk base g s.clock.next_tid s.clock.records
  pub recorded : (t : ℕ) → has_record t s.clock.records ≡ is_in_log (g.place t)
  pub outcomes : (t : ℕ) → outcome_of t s.clock.outcomes ≡ outcome_at (g.place t)
  pub nowhere : (t : ℕ) → s.clock.next_tid ≤ t → g.place t ≡ Nowhere
  pub before : (t : ℕ) → t < base.next_tid → g.place t ≡ Nowhere
  -- the records that are queued or collected wait, each in its place
  pub queue : AllWait g s.actor InQueue s.clock.queue
  pub groups : (i : Name) → AllWait g s.actor (InGroup i) (s.actor i).group
  -- the transactions that run; what they drew and have not used; what was not drawn
  pub txns : (i : Name) (x : Transaction) → (s.actor i).txn ≡ Some x → TxnOk base g s.clock i x
  pub drawn : (i : Name) (x : Transaction) → (s.actor i).txn ≡ Some x → (v : ℕ) → has_number v x.drawn ≡ true → Unused base g s.clock i v (s.row v)
  pub undrawn : (v : ℕ) → s.clock.next_vertex ≤ v → s.row v ≡ fresh_row
  -- a vertex that a transaction holds is its own, and each row fits
  pub held : (i : Name) (x : Transaction) → (s.actor i).txn ≡ Some x → (v : ℕ) → holds x v ≡ true → (s.row v).owner ≡ Some x.tid
  pub rows : (v : ℕ) → RowOk base g s.clock.records s.actor v (s.row v)
  -- each active row is of a transaction that runs, and what was learnt bounds them
  pub active : (t e : ℕ) → has_active t e s.clock.rows ≡ true → IsActive g s.actor t e
  pub learnt : (i : Name) → LearntOk s.clock (s.actor i).learnt
  -- groups are small, and the records keep the rules of epochs and groups
  pub short : (i : Name) → length (s.actor i).group ≤ 64
  pub lawful : ContinuesInGroups base s.clock.last s.clock.records
