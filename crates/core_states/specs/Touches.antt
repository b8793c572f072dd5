-- Which vertices a transaction touched, while it runs and once it has ended.
use Rattle.std.specs.Prelude.{ℕ, Bool, false, ◌&&◌, ◌||◌, ◌==◌, List, [], ◌∷◌, Option, Some, None}
use Rattle.core_states.specs.declared.actor.Actor.{Actor}
use Rattle.core_states.specs.declared.transaction.Receipt.{Receipt}
use Rattle.core_states.specs.declared.transaction.Transaction.{Transaction}
use Rattle.core_states.specs.Numbers.{has_number}

abbrev pub txn_touched : Option Transaction → ℕ → ℕ → Bool
txn_touched None t v = false
txn_touched (Some x) t v = x.tid == t && has_number v x.touched

abbrev pub receipt_touched : List Receipt → ℕ → ℕ → Bool
receipt_touched [] t v = false
receipt_touched (r ∷ rs) t v = (r.tid == t && has_number v r.touched) || receipt_touched rs t v

-- the transaction of this number, running or ended, touched the vertex
abbrev pub touched_in : Actor → ℕ → ℕ → Bool
touched_in a t v = txn_touched a.txn t v || receipt_touched a.receipts t v
