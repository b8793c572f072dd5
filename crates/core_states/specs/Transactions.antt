-- How far a transaction is, and what it becomes.
use Rattle.std.specs.Prelude.{ℕ, Bool, true, false, not, ◌&&◌, ◌==◌, [], ◌∷◌, ◌++◌, length, Option, Some, None}
use Rattle.graph_model.specs.declared.change.Change.{Change}
use Rattle.graph_model.specs.declared.record.Outcome.{Outcome}
use Rattle.graph_model.specs.declared.record.Outcome.TheVariants.{Committed, Failed}
use Rattle.graph_model.specs.Change.{vertex_of}
use Rattle.vertex_locks.specs.declared.answer.Look.{Look}
use Rattle.vertex_locks.specs.declared.answer.Look.TheVariants.{Taken, Held, Conflict}
use Rattle.core_states.specs.declared.transaction.Stage.{Stage}
use Rattle.core_states.specs.declared.transaction.Stage.TheVariants.{Open, Queued, Decided}
use Rattle.core_states.specs.declared.transaction.Transaction.{Transaction}
use Rattle.core_states.specs.declared.transaction.End.{End}
use Rattle.core_states.specs.declared.transaction.End.TheVariants.{Faulted, HeldBy, ConflictAt, Without}
use Rattle.core_states.specs.declared.transaction.Receipt.{Receipt}
use Rattle.core_states.specs.declared.actor.LastLook.{LastLook}
use Rattle.core_states.specs.declared.actor.Actor.{Actor}
use Rattle.core_states.specs.Numbers.{has_number, without_number, touch}

abbrev pub is_open : Stage → Bool
is_open Open = true
is_open Queued = false
is_open (Decided o) = false

abbrev pub is_queued : Stage → Bool
is_queued Open = false
is_queued Queued = true
is_queued (Decided o) = false

-- its record was not queued or has failed
abbrev pub is_loser : Stage → Bool
is_loser Open = true
is_loser Queued = false
is_loser (Decided (Committed e)) = false
is_loser (Decided (Failed b a)) = true

-- the epoch of its record, where it knows one
abbrev pub won_epoch : Stage → Option ℕ
won_epoch Open = None
won_epoch Queued = None
won_epoch (Decided (Committed e)) = Some e
won_epoch (Decided (Failed b a)) = None

-- The transaction is open, its record was not queued, and it has undone no vertex.
abbrev pub is_working : Transaction → Bool
is_working x = is_open x.stage && length x.settled == 0

-- it took the vertex, and has neither undone nor applied it
abbrev pub holds : Transaction → ℕ → Bool
holds x v = has_number v x.touched && not (has_number v x.settled)

abbrev pub with_stage : Transaction → Stage → Transaction
with_stage x stage = record x { stage = stage }

abbrev pub after_outcome : Transaction → Option Outcome → Transaction
after_outcome x None = x
after_outcome x (Some o) = with_stage x (Decided o)

-- it has taken v
abbrev pub touching : Transaction → ℕ → Transaction
touching x v = record x { touched = touch v x.touched }

-- and has changed it
abbrev pub changing : Transaction → Change → Transaction
changing x c = record x { drawn = without_number (vertex_of c) x.drawn; touched = touch (vertex_of c) x.touched; own = x.own ++ c ∷ [] }

-- it has undone or applied v
abbrev pub settling : Transaction → ℕ → Transaction
settling x v = record x { settled = v ∷ x.settled }

-- an actor with this transaction, whose last look counts no more
abbrev pub with_txn : Actor → Option Transaction → Actor
with_txn a x = record a { txn = x; looked = None }

abbrev pub receipt_of : Transaction → End → Receipt
receipt_of x ends = record { tid = x.tid; read = x.read; changes = x.own; touched = x.touched; ends = ends }

-- the end of a transaction without a record, by its last look
abbrev pub end_by : ℕ → Look → End
end_by v Taken = Without
end_by v (Held t) = HeldBy v t
end_by v (Conflict e) = ConflictAt v e

abbrev pub end_by_look : Option LastLook → End
end_by_look None = Without
end_by_look (Some x) = end_by x.v x.look

-- and by its record's outcome
abbrev pub end_of : Stage → Option LastLook → End
end_of Open looked = end_by_look looked
end_of Queued looked = Without
end_of (Decided (Committed e)) looked = Without
end_of (Decided (Failed b a)) looked = Faulted b a
