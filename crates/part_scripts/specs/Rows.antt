-- The rows of the core and those of a shard, and what a call on a shard is among the core's events.
use Rattle.std.specs.Prelude.{◌≡◌, ℕ, ◌≤◌, true, false, List, Option, Some, None, Result, Ok, Err}
use Rattle.graph_model.specs.declared.no_memory.NoMemory.{NoMemory}
use Rattle.graph_model.specs.Places.{changes_about}
use Rattle.graph_model.specs.Records.{list_most}
use Rattle.edge_log.specs.Contents.{LogContent}
use Rattle.edge_log.specs.Rooms.{Block}
use Rattle.core_rows.specs.Rows.{Row, fresh_row, apply_row, undo_row}
use Rattle.core_states.specs.declared.actor.Actor.{Actor}
use Rattle.core_states.specs.declared.event.Act.{Act}
use Rattle.core_states.specs.declared.event.CoreAnswer.{CoreAnswer}
use Rattle.core_states.specs.declared.transaction.Transaction.{Transaction}
use Rattle.core_states.specs.Numbers.{has_number}
use Rattle.core_states.specs.Openings.{run_limits}
use Rattle.core_states.specs.RowEvents.{has_change}
use Rattle.core_states.specs.States.{State, row_event}
use Rattle.core_states.specs.Transactions.{holds}
use Rattle.shard_state.specs.declared.shard.Shard.{Shard}
use Rattle.shard_state.specs.Shards.{row_at, IsOf, IsShard}

-- The event of the actor on the row answers this, and leaves this row.
abbrev pub Moves : Act → Row → Actor → CoreAnswer → Row → Type 0
Moves action row a says next = (b : Actor) × (row_event run_limits action row a ≡ Some (record { answer = says; row = next; actor = b }))

-- A call did the event, of every actor that runs the transaction, and answered as it does; or it did nothing.
abbrev pub Did : Act → Transaction → Row → Result (Option CoreAnswer) NoMemory → Row → Type 0
Did action x row (Ok None) next = next ≡ row
Did action x row (Ok (Some says)) next = (a : Actor) → a.txn ≡ Some x → Moves action row a says next
Did action x row (Err e) next = next ≡ row

-- What was told of a change; nothing where memory ran out.
abbrev pub Told : Result (Option CoreAnswer) NoMemory → Option CoreAnswer → Type 0
Told (Ok None) says = ⊥
Told (Ok (Some told)) says = says ≡ Some told
Told (Err e) says = says ≡ None

-- The row of a vertex fits a transaction that runs: what it holds it owns, what it owns no commit after its snapshot changed, a number that it may use was never used, and nothing is private where it holds a vertex that it did not change.
pub record Fits (x : Transaction) (v : ℕ) (row : Row) : Type 0 where
  pub snapshot : row.owner ≡ Some x.tid → row.committed ≤ x.read
  pub held : holds x v ≡ true → row.owner ≡ Some x.tid
  pub unused : has_number v x.drawn ≡ true → row ≡ fresh_row
  pub plain : has_change (changes_about v x.own) ≡ false → holds x v ≡ true → (e : ℕ) → undo_row x.tid row ≡ apply_row x.tid e false row

-- The vertices of a shard have the rows that they have in the core.
abbrev pub AreAlike : {L R : Type 0} → (L → R → LogContent) → State → Shard L R → Type 0
AreAlike content s shard = (v : ℕ) → IsOf v shard → row_at content shard v ≡ s.row v

-- A shard is the one of this number among two, and its vertices have the rows that they have in the core.
pub record IsHalf {L R : Type 0} (stands : L → R → Type 0) (footprint : L → List Block) (content : L → R → LogContent) (limit : L → ℕ) (half : ℕ) (s : State) (shard : Shard L R) : Type 0 where
  pub is_shard : IsShard stands footprint content limit shard
  pub number : shard.number ≡ half
  pub shards : shard.shards ≡ 2
  pub most : shard.log_most ≡ list_most
  pub alike : AreAlike content s shard

-- A shard is the one of this number among two, and no vertex of it was ever there.
pub record IsFresh {L R : Type 0} (stands : L → R → Type 0) (footprint : L → List Block) (content : L → R → LogContent) (limit : L → ℕ) (half : ℕ) (shard : Shard L R) : Type 0 where
  pub is_shard : IsShard stands footprint content limit shard
  pub number : shard.number ≡ half
  pub shards : shard.shards ≡ 2
  pub most : shard.log_most ≡ list_most
  pub rows : (v : ℕ) → row_at content shard v ≡ fresh_row
