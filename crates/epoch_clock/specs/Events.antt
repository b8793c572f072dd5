-- The events of the core on the clock: what each answers and leaves, for every actor that may do it.
use Rattle.std.specs.Prelude.{◌≡◌, ℕ, ◌<◌, ◌≤◌, Bool, true, false, ◌==◌, List, length, Option, Some, None, Result, Ok, Err}
use Rattle.graph_model.specs.declared.record.Record.{Record}
use Rattle.graph_model.specs.declared.record.Outcome.{Outcome}
use Rattle.core_states.specs.declared.actor.Actor.{Actor}
use Rattle.core_states.specs.declared.clock.Clock.{Clock}
use Rattle.core_states.specs.declared.event.Act.TheVariants as act
use Rattle.core_states.specs.declared.event.CoreAnswer.{CoreAnswer}
use Rattle.core_states.specs.declared.event.CoreAnswer.TheVariants as answer
use Rattle.core_states.specs.declared.transaction.Transaction.{Transaction}
use Rattle.epoch_clock.specs.declared.drawn.Drawn.{Drawn}
use Rattle.epoch_clock.specs.declared.drawn.BeginRefusal.{BeginRefusal}
use Rattle.epoch_clock.specs.declared.drawn.BeginRefusal.TheVariants as refusal
use Rattle.core_states.specs.ClockEvents.{ClockMove, queued_record}
use Rattle.core_states.specs.LogEvents.{GroupMove}
use Rattle.core_states.specs.LogParts.{LogPart, is_held_by}
use Rattle.core_states.specs.Names.{Name}
use Rattle.core_states.specs.Numbers.{all_in}
use Rattle.core_states.specs.States.{clock_event, group_event}
use Rattle.core_states.specs.Transactions.{is_working, is_queued, is_loser, won_epoch}

-- The event is enabled, answers this and leaves this clock.
abbrev pub LeavesClock : Option ClockMove → CoreAnswer → Clock → Type 0
LeavesClock None says k = ⊥
LeavesClock (Some m) says k = (m.answer ≡ says) × (m.clock ≡ k)

abbrev pub LeavesGroup : Option GroupMove → CoreAnswer → Clock → Type 0
LeavesGroup None says k = ⊥
LeavesGroup (Some m) says k = (m.answer ≡ says) × (m.clock ≡ k)

-- the actor has these records then
abbrev pub Gathers : List Record → Option GroupMove → Type 0
Gathers group None = ⊥
Gathers group (Some m) = m.actor.group ≡ group

-- by an actor that has no row, and by one that has a row and is idle
abbrev pub OpensRow : Clock → CoreAnswer → Clock → Type 0
OpensRow k says new = (a : Actor) → a.row ≡ false → LeavesClock (clock_event act.Open k a) says new

abbrev pub ClosesRow : Clock → CoreAnswer → Clock → Type 0
ClosesRow k says new = (a : Actor) → a.row ≡ true → a.txn ≡ None → LeavesClock (clock_event act.Close k a) says new

-- by an actor that has a row and is idle
abbrev pub BeginsTransaction : Clock → CoreAnswer → Clock → Type 0
BeginsTransaction k says new = (a : Actor) → a.row ≡ true → a.txn ≡ None → LeavesClock (clock_event act.Begin k a) says new

-- by one whose transaction may work
abbrev pub Draws : Clock → CoreAnswer → Clock → Type 0
Draws k says new = (a : Actor) (x : Transaction) → a.txn ≡ Some x → is_working x ≡ true → LeavesClock (clock_event act.Draw k a) says new

-- by one whose transaction may work and has made the changes of this record
abbrev pub Enqueues : Record → Clock → CoreAnswer → Clock → Type 0
Enqueues r k says new =
    (a : Actor) (x : Transaction) → a.txn ≡ Some x → is_working x ≡ true → (length x.own == 0) ≡ false → queued_record x ≡ r →
    LeavesClock (clock_event act.Enqueue k a) says new

-- by one whose record waits
abbrev pub Hears : ℕ → Clock → CoreAnswer → Clock → Type 0
Hears t k says new =
    (a : Actor) (x : Transaction) → a.txn ≡ Some x → is_queued x.stage ≡ true → x.tid ≡ t → LeavesClock (clock_event act.Outcome k a) says new

-- by one whose record is published and applied everywhere
abbrev pub Finishes : ℕ → Clock → CoreAnswer → Clock → Type 0
Finishes t k says new =
    (a : Actor) (x : Transaction) (e : ℕ) → a.txn ≡ Some x → won_epoch x.stage ≡ Some e → all_in x.touched x.settled ≡ true → x.tid ≡ t →
    LeavesClock (clock_event act.Done k a) says new

-- by one whose last record has this epoch
abbrev pub Sees : ℕ → Clock → CoreAnswer → Clock → Type 0
Sees e k says new = (a : Actor) → a.txn ≡ None → a.finished ≡ Some e → LeavesClock (clock_event act.Seen k a) says new

-- by one that has no record, and has undone what it took
abbrev pub EndsWithout : ℕ → Clock → CoreAnswer → Clock → Type 0
EndsWithout t k says new =
    (a : Actor) (x : Transaction) → a.txn ≡ Some x → is_loser x.stage ≡ true → all_in x.touched x.settled ≡ true → x.tid ≡ t →
    LeavesClock (clock_event act.End k a) says new

-- by any
abbrev pub Asks : Clock → CoreAnswer → Clock → Type 0
Asks k says new = (a : Actor) → LeavesClock (clock_event act.Horizon k a) says new

-- by any, where nobody holds the log turn
abbrev pub Collects : List Record → Clock → CoreAnswer → Clock → Type 0
Collects group k says new =
    (i : Name) (log : LogPart) (a : Actor) → log.holder ≡ None →
    LeavesGroup (group_event act.Collect i log k a) says new × Gathers group (group_event act.Collect i log k a)

-- by one that holds the log turn and has written these records, at this moment
abbrev pub Publishes : ℕ → List Record → Clock → CoreAnswer → Clock → Type 0
Publishes moment group k says new =
    (i : Name) (log : LogPart) (a : Actor) → is_held_by i log.holder ≡ true → a.written ≡ true → a.group ≡ group → log.moment ≡ moment →
    LeavesGroup (group_event act.Publish i log k a) says new

-- by one that holds the log turn and has not written these records, where the disk's count rose between these two
abbrev pub Fails : ℕ → ℕ → List Record → Clock → CoreAnswer → Clock → Type 0
Fails before after group k says new =
    (i : Name) (log : LogPart) (a : Actor) → is_held_by i log.holder ≡ true → a.written ≡ false → a.group ≡ group → before < after → log.greatest ≤ before →
    LeavesGroup (group_event (act.Fail before after) i log k a) says new

-- The event of each answer of a beginning: the transaction begins, or no number is left. Want of memory is none.
abbrev pub BeginsAs : Clock → Result Drawn BeginRefusal → Clock → Type 0
BeginsAs k (Ok drawn) new = BeginsTransaction k (answer.Begun drawn.tid drawn.read) new
BeginsAs k (Err refusal.Spent) new = BeginsTransaction k answer.Spent new
BeginsAs k (Err refusal.NoMemory) new = new ≡ k

-- And of a draw.
abbrev pub DrawsAs : Clock → Option ℕ → Clock → Type 0
DrawsAs k (Some v) new = Draws k (answer.Number v) new
DrawsAs k None new = Draws k answer.Spent new
