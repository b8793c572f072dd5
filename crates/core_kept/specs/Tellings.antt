-- What the receipts and the last looks of the actors say of the records.
use Rattle.std.specs.Prelude.{◌≡◌, ◌≢◌, ℕ, ◌≤◌, ◌<◌, true, List, [], ◌∷◌, Option, Some, None}
use Rattle.graph_model.specs.declared.graph.Base.{Base}
use Rattle.graph_model.specs.Places.{changes_about}
use Rattle.graph_model.specs.declared.record.Record.{Record}
use Rattle.vertex_locks.specs.declared.answer.Look.{Look}
use Rattle.vertex_locks.specs.declared.answer.Look.TheVariants.{Taken, Held, Conflict}
use Rattle.core_kept.specs.Good.{Nowhere, InLog, InFault, Ghost, In, Good}
use Rattle.core_states.specs.Names.{Name}
use Rattle.core_states.specs.Touches.{touched_in}
use Rattle.core_states.specs.States.{State}
use Rattle.core_states.specs.declared.actor.Actor.{Actor}
use Rattle.core_states.specs.declared.actor.LastLook.{LastLook}
use Rattle.core_states.specs.declared.transaction.End.{End}
use Rattle.core_states.specs.declared.transaction.End.TheVariants.{CommittedAt, Faulted, HeldBy, ConflictAt, Without}
use Rattle.core_states.specs.declared.transaction.Receipt.{Receipt}
use Rattle.core_states.specs.declared.transaction.Transaction.{Transaction}

-- no transaction of this number runs
abbrev pub IsOver : (Name → Actor) → ℕ → Type 0
IsOver actor t = (j : Name) (x : Transaction) → (actor j).txn ≡ Some x → x.tid ≢ t

-- t touched v, and has no record of an epoch at most this read epoch
pub record HeldOk (g : Ghost) (s : State) (v t read : ℕ) : Type 0 where
  pub below : t < s.clock.next_tid
  pub touched : touched_in (s.actor (g.who t)) t v ≡ true
  pub later : (e : ℕ) → g.place t ≡ InLog e → read < e

-- a record of this epoch changed the vertex
pub record ConflictOk (s : State) (v e : ℕ) : Type 0 where
  pub record_is : Record
  pub among : In record_is s.clock.records
  pub epoch : record_is.epoch ≡ e
  pub changed : changes_about v record_is.changes ≢ []

abbrev pub EndOk : Ghost → State → Receipt → End → Type 0
EndOk g s r (CommittedAt e) = (g.place r.tid ≡ InLog e) × In (record { tid = r.tid; read = r.read; epoch = e; changes = r.changes }) s.clock.records
EndOk g s r (Faulted b a) = g.place r.tid ≡ InFault b a
EndOk g s r (HeldBy v t) = (g.place r.tid ≡ Nowhere) × HeldOk g s v t r.read
EndOk g s r (ConflictAt v e) = (g.place r.tid ≡ Nowhere) × ConflictOk s v e
EndOk g s r Without = g.place r.tid ≡ Nowhere

pub record ReceiptOk (g : Ghost) (s : State) (r : Receipt) : Type 0 where
  pub below : r.tid < s.clock.next_tid
  pub idle : IsOver s.actor r.tid
  pub low : r.read ≤ s.clock.visible
  pub ends : EndOk g s r r.ends

abbrev pub AllReceipts : Ghost → State → List Receipt → Type 0
AllReceipts g s [] = Unit {0}
AllReceipts g s (r ∷ rs) = ReceiptOk g s r × AllReceipts g s rs

-- what a look answered
abbrev pub LookIs : Ghost → State → ℕ → ℕ → Look → Type 0
LookIs g s read v Taken = Unit {0}
LookIs g s read v (Held t) = HeldOk g s v t read
LookIs g s read v (Conflict e) = ConflictOk s v e

abbrev pub LookOk : Ghost → State → ℕ → Option LastLook → Type 0
LookOk g s read None = Unit {0}
LookOk g s read (Some x) = LookIs g s read x.v x.look

abbrev pub LookedOk : Ghost → State → Option Transaction → Option LastLook → Type 0
LookedOk g s None looked = Unit {0}
LookedOk g s (Some x) looked = LookOk g s x.read looked

abbrev pub Told : Ghost → State → Type 0
Told g s = (i : Name) → AllReceipts g s (s.actor i).receipts × LookedOk g s (s.actor i).txn (s.actor i).looked

-- What every event keeps: for some ghost these facts hold.
abbrev pub Steady : Base → State → Type 0
Steady base s = (g : Ghost) × Good base g s × Told g s
