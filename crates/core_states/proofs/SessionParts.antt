-- An event asks for nothing of its actor but its session.
use Rattle.std.proofs.Common.{◌≡◌, ℕ, Bool, true, false, List, [], ◌∷◌, length, refl, ap, Option, Some, None}
use Rattle.std.specs.Prelude.{◌==◌, ◌&&◌, not, nat_lt, nat_le, if◌then◌else◌, is_some}
use Rattle.graph_model.specs.declared.change.Change.{Change}
use Rattle.graph_model.specs.declared.change.Change.TheVariants as change
use Rattle.graph_model.specs.declared.graph.Base.{Base}
use Rattle.graph_model.specs.Records.{number_end, has_destination}
use Rattle.vertex_locks.specs.declared.answer.Look.{Look}
use Rattle.vertex_locks.specs.declared.answer.Look.TheVariants.{Taken, Held, Conflict}
use Rattle.core_rows.specs.Rows.{Row, lock_answer}
use Rattle.core_states.specs.declared.actor.Actor.{Actor}
use Rattle.core_states.specs.declared.clock.Clock.{Clock}
use Rattle.core_states.specs.declared.event.Act.{Act}
use Rattle.core_states.specs.declared.event.Act.TheVariants as act
use Rattle.core_states.specs.declared.event.CoreAnswer.{CoreAnswer}
use Rattle.core_states.specs.declared.event.Reach.{Reach}
use Rattle.core_states.specs.declared.event.Reach.TheVariants as reach
use Rattle.core_states.specs.declared.transaction.Receipt.{Receipt}
use Rattle.core_states.specs.declared.transaction.Transaction.{Transaction}
use Rattle.core_states.specs.ClockEvents.{ClockMove, for_txn, for_none, done_at, sees}
use Rattle.core_states.specs.LogEvents.{LogMove, GroupMove, writes, mends, collects, publishes, fails}
use Rattle.core_states.specs.LogParts.{LogPart, is_held_by, may_take}
use Rattle.core_states.specs.Names.{Name}
use Rattle.core_states.specs.Numbers.{all_in, has_number}
use Rattle.core_states.specs.Parts.{VertexRow, row_of, Part, OfShard, OfClock, OfLog, LocalMove, row_local, clock_local, log_local, group_local, log_first, clock_last, local_at, local}
use Rattle.core_states.specs.RowEvents.{RowMove, Limits, has_vertex, is_long, refusal, by_refusal, by_look, changes, looks_by, applies_at}
use Rattle.core_states.specs.SessionParts.{remembering, IsAlike}
use Rattle.core_states.specs.States.{clock_event, row_event, log_event, group_event, reach_of}
use Rattle.core_states.specs.Transactions.{is_working, is_queued, is_loser, won_epoch, holds}

-- What moves leave of a part and of two actors.
record Alike {A : Type 0} (f : Actor → Option A → LocalMove) (a b : Actor) (m n : Option A) : Type 0 where
  is : IsAlike (f a m) (f b n)

if_alike : {A : Type 0} (f : Actor → Option A → LocalMove) (a b : Actor) (t : Bool) (m n m' n' : Option A) → Alike f a b m m' → Alike f a b n n' → Alike f a b (if t then m else n) (if t then m' else n')
if_alike f a b true m n m' n' x y = x
if_alike f a b false m n m' n' x y = y

for_alike : {A : Type 0} (f : Actor → Option A → LocalMove) (a b : Actor) (g h : Transaction → Option A) (o : Option Transaction) → Alike f a b None None → ((x : Transaction) → Alike f a b (g x) (h x)) → Alike f a b (for_txn g o) (for_txn h o)
for_alike f a b g h None none each = none
for_alike f a b g h (Some x) none each = each x

none_alike : {A : Type 0} (f : Actor → Option A → LocalMove) (a b : Actor) (m n : Option A) (o : Option Transaction) → Alike f a b None None → Alike f a b m n → Alike f a b (for_none m o) (for_none n o)
none_alike f a b m n None none is = is
none_alike f a b m n (Some x) none is = none

module _ (receipts : List Receipt) (drew : List ℕ) (a : Actor) where
  abbrev other : Actor
  other = remembering receipts drew a

  module _ (k : Clock) where
    abbrev C : Option ClockMove → Option ClockMove → Type 0
    C m n = Alike (clock_local k) a other m n

    done_alike : (o : Option ℕ) (x : Transaction) → C (done_at o x k a) (done_at o x k other)
    done_alike None x = record { is = record { answer = refl; parts = refl; session = refl } }
    done_alike (Some e) x = if_alike (clock_local k) a other (all_in x.touched x.settled) _ None _ None (record { is = record { answer = refl; parts = refl; session = refl } }) (record { is = record { answer = refl; parts = refl; session = refl } })

    sees_alike : (o : Option ℕ) → C (sees o k a) (sees o k other)
    sees_alike None = record { is = record { answer = refl; parts = refl; session = refl } }
    sees_alike (Some e) = record { is = record { answer = refl; parts = refl; session = refl } }

    clock_alike : (action : Act) → C (clock_event action k a) (clock_event action k other)
    clock_alike act.Open = if_alike (clock_local k) a other a.row None _ None _ (record { is = record { answer = refl; parts = refl; session = refl } }) (record { is = record { answer = refl; parts = refl; session = refl } })
    clock_alike act.Close = none_alike (clock_local k) a other _ _ a.txn (record { is = record { answer = refl; parts = refl; session = refl } }) (if_alike (clock_local k) a other a.row _ None _ None (record { is = record { answer = refl; parts = refl; session = refl } }) (record { is = record { answer = refl; parts = refl; session = refl } }))
    clock_alike act.Begin = none_alike (clock_local k) a other _ _ a.txn (record { is = record { answer = refl; parts = refl; session = refl } }) (if_alike (clock_local k) a other (not a.row) None _ None _ (record { is = record { answer = refl; parts = refl; session = refl } }) (if_alike (clock_local k) a other (k.next_tid == number_end) _ _ _ _ (record { is = record { answer = refl; parts = refl; session = refl } }) (record { is = record { answer = refl; parts = refl; session = refl } })))
    clock_alike act.Draw = for_alike (clock_local k) a other _ _ a.txn (record { is = record { answer = refl; parts = refl; session = refl } }) (λ x. if_alike (clock_local k) a other (not (is_working x)) None _ None _ (record { is = record { answer = refl; parts = refl; session = refl } }) (if_alike (clock_local k) a other (k.next_vertex == number_end) _ _ _ _ (record { is = record { answer = refl; parts = refl; session = refl } }) (record { is = record { answer = refl; parts = refl; session = refl } })))
    clock_alike act.Enqueue = for_alike (clock_local k) a other _ _ a.txn (record { is = record { answer = refl; parts = refl; session = refl } }) (λ x. if_alike (clock_local k) a other (not (is_working x)) None _ None _ (record { is = record { answer = refl; parts = refl; session = refl } }) (if_alike (clock_local k) a other (length x.own == 0) None _ None _ (record { is = record { answer = refl; parts = refl; session = refl } }) (record { is = record { answer = refl; parts = refl; session = refl } })))
    clock_alike act.Outcome = for_alike (clock_local k) a other _ _ a.txn (record { is = record { answer = refl; parts = refl; session = refl } }) (λ x. if_alike (clock_local k) a other (not (is_queued x.stage)) None _ None _ (record { is = record { answer = refl; parts = refl; session = refl } }) (record { is = record { answer = refl; parts = refl; session = refl } }))
    clock_alike act.Done = for_alike (clock_local k) a other _ _ a.txn (record { is = record { answer = refl; parts = refl; session = refl } }) (λ x. done_alike (won_epoch x.stage) x)
    clock_alike act.Seen = none_alike (clock_local k) a other _ _ a.txn (record { is = record { answer = refl; parts = refl; session = refl } }) (sees_alike a.finished)
    clock_alike act.End = for_alike (clock_local k) a other _ _ a.txn (record { is = record { answer = refl; parts = refl; session = refl } }) (λ x. if_alike (clock_local k) a other (is_loser x.stage && all_in x.touched x.settled) _ None _ None (record { is = record { answer = refl; parts = refl; session = refl } }) (record { is = record { answer = refl; parts = refl; session = refl } }))
    clock_alike act.Horizon = record { is = record { answer = refl; parts = refl; session = refl } }
    clock_alike action = record { is = record { answer = refl; parts = refl; session = refl } }

  module _ (rows : List VertexRow) (v : ℕ) (row : Row) (most : Limits) where
    abbrev R : Option RowMove → Option RowMove → Type 0
    R m n = Alike (row_local rows v) a other m n

    refusal_alike : (o : Option CoreAnswer) (x : Transaction) (c : Change) → R (by_refusal o x c row a) (by_refusal o x c row other)
    refusal_alike None x c = record { is = record { answer = refl; parts = refl; session = refl } }
    refusal_alike (Some says) x c = record { is = record { answer = refl; parts = refl; session = refl } }

    look_alike : (look : Look) (x : Transaction) (c : Change) → R (by_look look most x c row a) (by_look look most x c row other)
    look_alike Taken x c = refusal_alike (refusal most x c row) x c
    look_alike (Held u) x c = record { is = record { answer = refl; parts = refl; session = refl } }
    look_alike (Conflict e) x c = record { is = record { answer = refl; parts = refl; session = refl } }

    changes_alike : (x : Transaction) (c : Change) → R (changes most x c row a) (changes most x c row other)
    changes_alike x c = if_alike (row_local rows v) a other (not (is_working x)) None _ None _ (record { is = record { answer = refl; parts = refl; session = refl } }) (if_alike (row_local rows v) a other (not (has_vertex x row)) _ _ _ _ (record { is = record { answer = refl; parts = refl; session = refl } }) (look_alike (lock_answer row x.tid x.read) x c))

    looks_alike : (look : Look) (x : Transaction) (w : ℕ) → R (looks_by look x w row a) (looks_by look x w row other)
    looks_alike Taken x w = record { is = record { answer = refl; parts = refl; session = refl } }
    looks_alike (Held u) x w = record { is = record { answer = refl; parts = refl; session = refl } }
    looks_alike (Conflict e) x w = record { is = record { answer = refl; parts = refl; session = refl } }

    applies_alike : (o : Option ℕ) (x : Transaction) (w : ℕ) → R (applies_at o x w row a) (applies_at o x w row other)
    applies_alike None x w = record { is = record { answer = refl; parts = refl; session = refl } }
    applies_alike (Some e) x w = if_alike (row_local rows v) a other (holds x w) _ None _ None (record { is = record { answer = refl; parts = refl; session = refl } }) (record { is = record { answer = refl; parts = refl; session = refl } })

    row_alike : (action : Act) → R (row_event most action row a) (row_event most action row other)
    row_alike (act.Look w) = for_alike (row_local rows v) a other _ _ a.txn (record { is = record { answer = refl; parts = refl; session = refl } }) (λ x. if_alike (row_local rows v) a other (not (is_working x)) None _ None _ (record { is = record { answer = refl; parts = refl; session = refl } }) (if_alike (row_local rows v) a other (not (has_vertex x row)) None _ None _ (record { is = record { answer = refl; parts = refl; session = refl } }) (looks_alike (lock_answer row x.tid x.read) x w)))
    row_alike (act.Put w l d p) = for_alike (row_local rows v) a other _ _ a.txn (record { is = record { answer = refl; parts = refl; session = refl } }) (λ x. if_alike (row_local rows v) a other (has_destination (change.Put w l d p)) _ None _ None (changes_alike x (change.Put w l d p)) (record { is = record { answer = refl; parts = refl; session = refl } }))
    row_alike (act.Del w l d) = for_alike (row_local rows v) a other _ _ a.txn (record { is = record { answer = refl; parts = refl; session = refl } }) (λ x. changes_alike x (change.Del w l d))
    row_alike (act.Set w p) = for_alike (row_local rows v) a other _ _ a.txn (record { is = record { answer = refl; parts = refl; session = refl } }) (λ x. changes_alike x (change.Set w p))
    row_alike (act.Drop w) = for_alike (row_local rows v) a other _ _ a.txn (record { is = record { answer = refl; parts = refl; session = refl } }) (λ x. changes_alike x (change.Drop w))
    row_alike (act.New w p) = for_alike (row_local rows v) a other _ _ a.txn (record { is = record { answer = refl; parts = refl; session = refl } }) (λ x. if_alike (row_local rows v) a other (not (is_working x)) None _ None _ (record { is = record { answer = refl; parts = refl; session = refl } }) (if_alike (row_local rows v) a other (not (has_number w x.drawn)) None _ None _ (record { is = record { answer = refl; parts = refl; session = refl } }) (if_alike (row_local rows v) a other (is_long most x (change.New w p)) _ _ _ _ (record { is = record { answer = refl; parts = refl; session = refl } }) (record { is = record { answer = refl; parts = refl; session = refl } }))))
    row_alike (act.Read q) = for_alike (row_local rows v) a other _ _ a.txn (record { is = record { answer = refl; parts = refl; session = refl } }) (λ x. if_alike (row_local rows v) a other (not (is_working x)) None _ None _ (record { is = record { answer = refl; parts = refl; session = refl } }) (record { is = record { answer = refl; parts = refl; session = refl } }))
    row_alike (act.Apply w) = for_alike (row_local rows v) a other _ _ a.txn (record { is = record { answer = refl; parts = refl; session = refl } }) (λ x. applies_alike (won_epoch x.stage) x w)
    row_alike (act.Undo w) = for_alike (row_local rows v) a other _ _ a.txn (record { is = record { answer = refl; parts = refl; session = refl } }) (λ x. if_alike (row_local rows v) a other (is_loser x.stage && holds x w) _ None _ None (record { is = record { answer = refl; parts = refl; session = refl } }) (record { is = record { answer = refl; parts = refl; session = refl } }))
    row_alike action = record { is = record { answer = refl; parts = refl; session = refl } }

  module _ (i : Name) (log : LogPart) where
    log_alike : (action : Act) → Alike (log_local log) a other (log_event action i log a) (log_event action i log other)
    log_alike (act.WriteGroup moment) = if_alike (log_local log) a other (not (is_held_by i log.holder)) None _ None _ (record { is = record { answer = refl; parts = refl; session = refl } }) (if_alike (log_local log) a other a.written None _ None _ (record { is = record { answer = refl; parts = refl; session = refl } }) (if_alike (log_local log) a other (not log.mended) None _ None _ (record { is = record { answer = refl; parts = refl; session = refl } }) (if_alike (log_local log) a other (nat_lt moment log.moment) None _ None _ (record { is = record { answer = refl; parts = refl; session = refl } }) (record { is = record { answer = refl; parts = refl; session = refl } }))))
    log_alike act.Mend = if_alike (log_local log) a other log.mended None _ None _ (record { is = record { answer = refl; parts = refl; session = refl } }) (if_alike (log_local log) a other (not (may_take i log.holder)) None _ None _ (record { is = record { answer = refl; parts = refl; session = refl } }) (record { is = record { answer = refl; parts = refl; session = refl } }))
    log_alike action = record { is = record { answer = refl; parts = refl; session = refl } }

    group_alike : (k : Clock) (action : Act) → Alike (group_local log k) a other (group_event action i log k a) (group_event action i log k other)
    group_alike k act.Collect = if_alike (group_local log k) a other (is_some log.holder) None _ None _ (record { is = record { answer = refl; parts = refl; session = refl } }) (if_alike (group_local log k) a other (length k.queue == 0) None _ None _ (record { is = record { answer = refl; parts = refl; session = refl } }) (record { is = record { answer = refl; parts = refl; session = refl } }))
    group_alike k act.Publish = if_alike (group_local log k) a other (not (is_held_by i log.holder)) None _ None _ (record { is = record { answer = refl; parts = refl; session = refl } }) (if_alike (group_local log k) a other (not a.written) None _ None _ (record { is = record { answer = refl; parts = refl; session = refl } }) (record { is = record { answer = refl; parts = refl; session = refl } }))
    group_alike k (act.Fail before after) = if_alike (group_local log k) a other (not (is_held_by i log.holder)) None _ None _ (record { is = record { answer = refl; parts = refl; session = refl } }) (if_alike (group_local log k) a other a.written None _ None _ (record { is = record { answer = refl; parts = refl; session = refl } }) (if_alike (group_local log k) a other (not (nat_lt before after && nat_le log.greatest before)) None _ None _ (record { is = record { answer = refl; parts = refl; session = refl } }) (record { is = record { answer = refl; parts = refl; session = refl } })))
    group_alike k action = record { is = record { answer = refl; parts = refl; session = refl } }

first_alike : (p : Part) (m n : LocalMove) → IsAlike m n → IsAlike (log_first p m) (log_first p n)
first_alike p m n is = record { answer = is.answer; parts = ap (λ ps. p ∷ ps) is.parts; session = is.session }

last_alike : (p : Part) (m n : LocalMove) → IsAlike m n → IsAlike (clock_last p m) (clock_last p n)
last_alike p m n is = record { answer = is.answer; parts = ap (λ ps. (clock_last p (record m { parts = ps })).parts) is.parts; session = is.session }

at_alike : (at : Reach) (most : Limits) (base : Base) (i : Name) (action : Act) (held : List Part) (receipts : List Receipt) (drew : List ℕ) (a : Actor) → IsAlike (local_at at most base i action held a) (local_at at most base i action held (remembering receipts drew a))
at_alike (reach.Row v) most base i action (OfShard rows ∷ []) receipts drew a = (row_alike receipts drew a rows v (row_of base rows v) most action).is
at_alike reach.Clock most base i action (OfClock k ∷ []) receipts drew a = (clock_alike receipts drew a k action).is
at_alike reach.Log most base i action (OfLog log ∷ []) receipts drew a = (log_alike receipts drew a i log action).is
at_alike reach.LogAndClock most base i action (OfLog log ∷ OfClock k ∷ []) receipts drew a = (group_alike receipts drew a i log k action).is
at_alike reach.Clock most base i action (OfLog log ∷ OfClock k ∷ []) receipts drew a = first_alike (OfLog log) _ _ (clock_alike receipts drew a k action).is
at_alike reach.Log most base i action (OfLog log ∷ OfClock k ∷ []) receipts drew a = last_alike (OfClock k) _ _ (log_alike receipts drew a i log action).is
at_alike at most base i action held receipts drew a = record { answer = refl; parts = refl; session = refl }

-- Whatever an actor remembers of ended transactions and of numbers drawn, an event of it answers the same and leaves the same.
pub local_alike : (most : Limits) (base : Base) (i : Name) (action : Act) (held : List Part) (receipts : List Receipt) (drew : List ℕ) (a : Actor) → IsAlike (local most base i action held a) (local most base i action held (remembering receipts drew a))
local_alike most base i action held receipts drew a = at_alike (reach_of action) most base i action held receipts drew a
