-- What a call on a shard is among the core's events: what it answers, and what it makes of the row, for each transaction that its caller speaks of.
use Rattle.std.specs.Prelude.{◌≡◌, ℕ, ◌+◌, Bool, true, Option, Some, None, Result, Ok, Err, List}
use Rattle.graph_model.specs.declared.change.Change.{Change}
use Rattle.graph_model.specs.declared.change.Change.TheVariants.{New}
use Rattle.graph_model.specs.declared.query.Query.{Query}
use Rattle.graph_model.specs.declared.query.Answer.{Answer}
use Rattle.graph_model.specs.Change.{vertex_of, encoded_lens}
use Rattle.graph_model.specs.Places.{changes_about}
use Rattle.vertex_locks.specs.declared.answer.Look.{Look}
use Rattle.vertex_locks.specs.declared.answer.Look.TheVariants.{Taken, Held, Conflict}
use Rattle.core_rows.specs.Rows.{Row}
use Rattle.core_states.specs.declared.actor.Actor.{Actor}
use Rattle.core_states.specs.declared.event.Act.{Act}
use Rattle.core_states.specs.declared.event.Act.TheVariants as act
use Rattle.core_states.specs.declared.event.CoreAnswer.{CoreAnswer}
use Rattle.core_states.specs.declared.event.CoreAnswer.TheVariants as answer
use Rattle.core_states.specs.declared.transaction.Transaction.{Transaction}
use Rattle.core_states.specs.RowEvents.{Limits, has_change}
use Rattle.core_states.specs.Numbers.{has_number}
use Rattle.core_states.specs.States.{row_event}
use Rattle.core_states.specs.Transactions.{holds, is_loser, is_working, touching, changing, settling, with_txn, won_epoch}
use Rattle.shard_state.specs.declared.who.Who.{Who}
use Rattle.shard_state.specs.declared.who.Placed.{Placed}
use Rattle.shard_state.specs.declared.who.Placed.TheVariants.{Added, Replaced}
use Rattle.shard_state.specs.declared.who.Taken.{Taken as TakenOut}
use Rattle.shard_state.specs.declared.who.Taken.TheVariants.{Gone, Absent}
use Rattle.shard_state.specs.declared.who.ShardRefusal.{ShardRefusal}
use Rattle.shard_state.specs.declared.who.ShardRefusal.TheVariants.{NoMemory, NoVertex, TxnFull, LogFull}

-- The caller speaks of this transaction: of its number, its snapshot, and how much longer its changes may become.
pub record Speaks (most : Limits) (who : Who) (x : Transaction) : Type 0 where
  pub tid : x.tid ≡ who.tid
  pub read : x.read ≡ who.read
  pub left : encoded_lens x.own + who.left ≡ most.txn
  pub working : is_working x ≡ true

-- what the core answers where a shard refuses; none where memory ran out
abbrev pub refused : ShardRefusal → Option CoreAnswer
refused NoMemory = None
refused NoVertex = Some answer.NoVertex
refused TxnFull = Some answer.TxnFull
refused LogFull = Some answer.LogFull

-- what the core answers to a put, a del, and a change that tells nothing
abbrev pub says_placed : Result Placed ShardRefusal → Option CoreAnswer
says_placed (Ok Added) = Some answer.Added
says_placed (Ok Replaced) = Some answer.Replaced
says_placed (Err refusal) = refused refusal

abbrev pub says_taken : Result TakenOut ShardRefusal → Option CoreAnswer
says_taken (Ok Gone) = Some answer.Gone
says_taken (Ok Absent) = Some answer.Absent
says_taken (Err refusal) = refused refusal

abbrev pub says_done : {A : Type 0} → Result A ShardRefusal → Option CoreAnswer
says_done (Ok x) = Some answer.Done
says_done (Err refusal) = refused refusal

-- what a change with this answer leaves of the transaction: it took the vertex where it was refused, and has made the change elsewhere
abbrev pub after_change : CoreAnswer → Transaction → Change → Transaction
after_change answer.NoVertex x c = x
after_change answer.TxnFull x c = touching x (vertex_of c)
after_change answer.LogFull x c = touching x (vertex_of c)
after_change answer.Absent x c = touching x (vertex_of c)
after_change says x c = changing x c

-- The call is the core's change: it answers this, and leaves this row. Where memory ran out, the row is as before.
abbrev pub Changes : Limits → Who → Act → Change → Row → Option CoreAnswer → Row → Type 0
Changes most who action c row None row' = row' ≡ row
Changes most who action c row (Some says) row' =
    (x : Transaction) (a : Actor) → Speaks most who x → a.txn ≡ Some x
    → row_event most action row a ≡ Some (record { answer = says; row = row'; actor = with_txn a (Some (after_change says x c)) })

-- The call is the core's new, of a number that the transaction drew, and leaves this row.
abbrev pub Makes : Limits → Who → ℕ → List ℕ → Row → Row → Type 0
Makes most who v p row row' =
    (x : Transaction) (a : Actor) → Speaks most who x → a.txn ≡ Some x → has_number v x.drawn ≡ true
    → row_event most (act.New v p) row a ≡ Some (record { answer = answer.Done; row = row'; actor = with_txn a (Some (changing x (New v p))) })

-- The call is the core's look, which leaves the row.
abbrev pub says_look : Look → CoreAnswer
says_look Taken = answer.NotEnabled
says_look (Held u) = answer.Held u
says_look (Conflict e) = answer.Conflict e

abbrev pub Looks : Limits → Who → ℕ → Row → Look → Type 0
Looks most who v row look =
    (x : Transaction) (a : Actor) → Speaks most who x → a.txn ≡ Some x
    → row_event most (act.Look v) row a
    ≡ Some (record { answer = says_look look; row = row; actor = record a { txn = Some x; looked = Some (record { v = v; look = look }) } })

-- The call is the core's read, which leaves the row.
abbrev pub Reads : Limits → Who → Query → Row → Answer → Type 0
Reads most who q row shown =
    (x : Transaction) (a : Actor) → Speaks most who x → a.txn ≡ Some x
    → row_event most (act.Read q) row a ≡ Some (record { answer = answer.Shown shown; row = row; actor = with_txn a (Some x) })

-- The call is the core's apply of a record of this epoch, which changed the vertex or did not.
abbrev pub Applies : Limits → ℕ → ℕ → ℕ → Bool → Row → Row → Type 0
Applies most v tid epoch changed row row' =
    (x : Transaction) (a : Actor) → a.txn ≡ Some x → x.tid ≡ tid → won_epoch x.stage ≡ Some epoch → holds x v ≡ true
    → changed ≡ has_change (changes_about v x.own)
    → row_event most (act.Apply v) row a ≡ Some (record { answer = answer.Done; row = row'; actor = with_txn a (Some (settling x v)) })

-- The call is the core's undo.
abbrev pub Undoes : Limits → ℕ → ℕ → Row → Row → Type 0
Undoes most v tid row row' =
    (x : Transaction) (a : Actor) → a.txn ≡ Some x → x.tid ≡ tid → is_loser x.stage ≡ true → holds x v ≡ true
    → row_event most (act.Undo v) row a ≡ Some (record { answer = answer.Done; row = row'; actor = record a { txn = Some (settling x v) } })
