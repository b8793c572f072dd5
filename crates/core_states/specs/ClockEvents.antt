-- The events that work on the clock: what each answers, and what it leaves of the clock and of its actor; none where its condition does not hold.
use Rattle.std.specs.Prelude.{ℕ, ◌+◌, ◌&&◌, not, if◌then◌else◌, ◌==◌, nat_le, [], ◌∷◌, ◌++◌, length, Bool, true, false, Option, Some, None}
use Rattle.graph_model.specs.declared.record.Record.{Record}
use Rattle.graph_model.specs.Records.{number_end}
use Rattle.core_states.specs.declared.transaction.Stage.TheVariants.{Open, Queued}
use Rattle.core_states.specs.declared.transaction.Transaction.{Transaction}
use Rattle.core_states.specs.declared.transaction.End.TheVariants.{CommittedAt}
use Rattle.core_states.specs.declared.actor.Learnt.{Learnt}
use Rattle.core_states.specs.declared.actor.Actor.{Actor}
use Rattle.core_states.specs.declared.clock.Clock.{Clock}
use Rattle.core_states.specs.declared.event.CoreAnswer.{CoreAnswer}
use Rattle.core_states.specs.declared.event.CoreAnswer.TheVariants as answer
use Rattle.core_states.specs.Numbers.{all_in, least, least_tid, without_active, outcome_of, visible_of}
use Rattle.core_states.specs.Transactions.{is_queued, is_loser, is_working, with_stage, after_outcome, with_txn, receipt_of, end_of}

pub record ClockMove : Type 0 where
  pub answer : CoreAnswer
  pub clock : Clock
  pub actor : Actor

abbrev pub same_clock : CoreAnswer → Clock → Actor → Option ClockMove
same_clock says k a = Some (record { answer = says; clock = k; actor = a })

-- For an actor with a transaction, and for one without.
abbrev pub for_txn : {A : Type 0} → (Transaction → Option A) → Option Transaction → Option A
for_txn f None = None
for_txn f (Some x) = f x

abbrev pub for_none : {A : Type 0} → Option A → Option Transaction → Option A
for_none m None = m
for_none m (Some x) = None

-- open and close
abbrev pub with_row : Actor → Bool → Actor
with_row a row = record a { row = row; looked = None }

abbrev pub opens : Clock → Actor → Option ClockMove
opens k a = if a.row then None else same_clock answer.Done k (with_row a true)

abbrev pub closes : Clock → Actor → Option ClockMove
closes k a = if a.row then same_clock answer.Done k (with_row a false) else None

-- begin: a number is drawn, the visible epoch is read, and the transaction is noted as active
abbrev pub begun_txn : Clock → Transaction
begun_txn k = record { tid = k.next_tid; read = k.visible; drawn = []; touched = []; settled = []; own = []; stage = Open }

abbrev pub begins : Clock → Actor → Option ClockMove
begins k a =
    if not a.row then None else
    if k.next_tid == number_end then same_clock answer.Spent k (with_txn a None) else
    Some (record {
      answer = answer.Begun k.next_tid k.visible;
      clock = record k { next_tid = k.next_tid + 1; rows = record { tid = k.next_tid; epoch = k.visible } ∷ k.rows };
      actor = record a { txn = Some (begun_txn k); looked = None; finished = None };
    })

-- draw: a vertex number, which the actor may use once
abbrev pub draws : Transaction → Clock → Actor → Option ClockMove
draws x k a =
    if not (is_working x) then None else
    if k.next_vertex == number_end then same_clock answer.Spent k (with_txn a (Some x)) else
    Some (record {
      answer = answer.Number k.next_vertex;
      clock = record k { next_vertex = k.next_vertex + 1 };
      actor = record a { txn = Some (record x { drawn = k.next_vertex ∷ x.drawn }); looked = None; drew = k.next_vertex ∷ a.drew };
    })

-- the horizon and the oldest number
abbrev pub learn : Clock → Learnt
learn k = record { horizon = least k.visible k.rows; oldest = least_tid k.next_tid k.rows }

abbrev pub told_learnt : Learnt → CoreAnswer
told_learnt l = answer.Learnt l.horizon l.oldest

-- enqueue: the record waits, without an epoch
abbrev pub queued_record : Transaction → Record
queued_record x = record { tid = x.tid; read = x.read; epoch = 0; changes = x.own }

abbrev pub enqueues : Transaction → Clock → Actor → Option ClockMove
enqueues x k a =
    if not (is_working x) then None else
    if length x.own == 0 then None else
    Some (record {
      answer = told_learnt (learn k);
      clock = record k { queue = k.queue ++ queued_record x ∷ [] };
      actor = record a { txn = Some (with_stage x Queued); learnt = learn k; looked = None };
    })

-- outcome: what is kept for the own number
abbrev pub hears : Transaction → Clock → Actor → Option ClockMove
hears x k a =
    if not (is_queued x.stage) then None else
    same_clock (answer.Kept (outcome_of x.tid k.outcomes)) k (with_txn a (Some (after_outcome x (outcome_of x.tid k.outcomes))))

-- done: the transaction is over, and `visible` rises as far as all records allow
abbrev pub finishes : Transaction → ℕ → Clock → Actor → Option ClockMove
finishes x e k a =
    Some (record {
      answer = answer.Done;
      clock = record k { visible = visible_of k.last (without_active x.tid k.pending); rows = without_active x.tid k.rows; pending = without_active x.tid k.pending };
      actor = record a { txn = None; looked = None; finished = Some e; receipts = receipt_of x (CommittedAt e) ∷ a.receipts };
    })

abbrev pub done_at : Option ℕ → Transaction → Clock → Actor → Option ClockMove
done_at None x k a = None
done_at (Some e) x k a = if all_in x.touched x.settled then finishes x e k a else None

-- seen: whether the epoch of the last record that is done is visible
abbrev pub sees : Option ℕ → Clock → Actor → Option ClockMove
sees None k a = None
sees (Some e) k a = same_clock (answer.Visible (nat_le e k.visible)) k (with_txn a a.txn)

-- end: a transaction without a record is over, once it has undone what it took
abbrev pub ends : Transaction → Clock → Actor → Option ClockMove
ends x k a =
    if is_loser x.stage && all_in x.touched x.settled then
    same_clock answer.Done (record k { rows = without_active x.tid k.rows }) (record a { txn = None; looked = None; receipts = receipt_of x (end_of x.stage a.looked) ∷ a.receipts })
    else None

-- horizon: any actor may ask
abbrev pub asks : Clock → Actor → Option ClockMove
asks k a = same_clock (told_learnt (learn k)) k (record a { learnt = learn k; looked = None })
