-- The whole state, and what an event of an actor makes of it.
use Rattle.std.specs.Prelude.{List, [], ◌∷◌, ℕ, Option, Some, None}
use Rattle.graph_model.specs.declared.change.Change.TheVariants as change
use Rattle.graph_model.specs.Graph.{asked_vertex}
use Rattle.core_rows.specs.Rows.{Row}
use Rattle.core_states.specs.declared.actor.Actor.{Actor}
use Rattle.core_states.specs.declared.clock.Clock.{Clock}
use Rattle.core_states.specs.declared.event.Act.{Act}
use Rattle.core_states.specs.declared.event.Act.TheVariants as act
use Rattle.core_states.specs.declared.event.Event.{Event}
use Rattle.core_states.specs.declared.event.CoreAnswer.{CoreAnswer}
use Rattle.core_states.specs.declared.event.CoreAnswer.TheVariants as answer
use Rattle.core_states.specs.Names.{Name, set_at, set_name}
use Rattle.core_states.specs.Transactions.{won_epoch}
use Rattle.core_states.specs.ClockEvents.{ClockMove, for_txn, for_none, opens, closes, begins, draws, enqueues, hears, done_at, sees, ends, asks}
use Rattle.core_states.specs.LogParts.{LogPart}
use Rattle.core_states.specs.LogEvents.{LogMove, GroupMove, writes, mends, collects, publishes, fails}
use Rattle.core_states.specs.declared.event.Reach.{Reach}
use Rattle.core_states.specs.declared.event.Reach.TheVariants as reach
use Rattle.core_states.specs.RowEvents.{RowMove, Limits, changes, puts, news, looks, reads, applies_at, undoes}

-- The clock, the log part, the actors by name, and a row for each vertex.
pub record State : Type 0 where
  pub clock : Clock
  pub log : LogPart
  pub actor : Name → Actor
  pub row : ℕ → Row

-- an event on the clock
abbrev pub clock_event : Act → Clock → Actor → Option ClockMove
clock_event act.Open k a = opens k a
clock_event act.Close k a = for_none (closes k a) a.txn
clock_event act.Begin k a = for_none (begins k a) a.txn
clock_event act.Draw k a = for_txn (λ x. draws x k a) a.txn
clock_event act.Enqueue k a = for_txn (λ x. enqueues x k a) a.txn
clock_event act.Outcome k a = for_txn (λ x. hears x k a) a.txn
clock_event act.Done k a = for_txn (λ x. done_at (won_epoch x.stage) x k a) a.txn
clock_event act.Seen k a = for_none (sees a.finished k a) a.txn
clock_event act.End k a = for_txn (λ x. ends x k a) a.txn
clock_event act.Horizon k a = asks k a
clock_event act.Collect k a = None
clock_event act.Publish k a = None
clock_event (act.Fail before after) k a = None
clock_event (act.WriteGroup moment) k a = None
clock_event act.Mend k a = None
clock_event (act.Look v) k a = None
clock_event (act.Put v l d p) k a = None
clock_event (act.Del v l d) k a = None
clock_event (act.Set v p) k a = None
clock_event (act.Drop v) k a = None
clock_event (act.New v p) k a = None
clock_event (act.Read q) k a = None
clock_event (act.Apply v) k a = None
clock_event (act.Undo v) k a = None

-- an event on a row
abbrev pub row_event : Limits → Act → Row → Actor → Option RowMove
row_event most (act.Look v) row a = for_txn (λ x. looks x v row a) a.txn
row_event most (act.Put v l d p) row a = for_txn (λ x. puts most x (change.Put v l d p) row a) a.txn
row_event most (act.Del v l d) row a = for_txn (λ x. changes most x (change.Del v l d) row a) a.txn
row_event most (act.Set v p) row a = for_txn (λ x. changes most x (change.Set v p) row a) a.txn
row_event most (act.Drop v) row a = for_txn (λ x. changes most x (change.Drop v) row a) a.txn
row_event most (act.New v p) row a = for_txn (λ x. news most x v p row a) a.txn
row_event most (act.Read q) row a = for_txn (λ x. reads x q row a) a.txn
row_event most (act.Apply v) row a = for_txn (λ x. applies_at (won_epoch x.stage) x v row a) a.txn
row_event most (act.Undo v) row a = for_txn (λ x. undoes x v row a) a.txn
row_event most act.Open row a = None
row_event most act.Close row a = None
row_event most act.Begin row a = None
row_event most act.Draw row a = None
row_event most act.Enqueue row a = None
row_event most act.Collect row a = None
row_event most act.Publish row a = None
row_event most act.Outcome row a = None
row_event most act.Done row a = None
row_event most act.Seen row a = None
row_event most act.End row a = None
row_event most act.Horizon row a = None
row_event most (act.Fail before after) row a = None
row_event most (act.WriteGroup moment) row a = None
row_event most act.Mend row a = None

-- an event on the log part
abbrev pub log_event : Act → Name → LogPart → Actor → Option LogMove
log_event (act.WriteGroup moment) i log a = writes moment i log a
log_event act.Mend i log a = mends i log a
log_event action i log a = None

-- an event on the log part and the clock
abbrev pub group_event : Act → Name → LogPart → Clock → Actor → Option GroupMove
group_event act.Collect i log k a = collects i log k a
group_event act.Publish i log k a = publishes i log k a
group_event (act.Fail before after) i log k a = fails before after i log k a
group_event action i log k a = None

-- what the event works on, beside its actor
abbrev pub reach_of : Act → Reach
reach_of act.Open = reach.Clock
reach_of act.Close = reach.Clock
reach_of act.Begin = reach.Clock
reach_of act.Draw = reach.Clock
reach_of act.Enqueue = reach.Clock
reach_of act.Collect = reach.LogAndClock
reach_of act.Publish = reach.LogAndClock
reach_of (act.Fail before after) = reach.LogAndClock
reach_of act.Outcome = reach.Clock
reach_of act.Done = reach.Clock
reach_of act.Seen = reach.Clock
reach_of act.End = reach.Clock
reach_of act.Horizon = reach.Clock
reach_of (act.Look v) = reach.Row v
reach_of (act.Put v l d p) = reach.Row v
reach_of (act.Del v l d) = reach.Row v
reach_of (act.Set v p) = reach.Row v
reach_of (act.Drop v) = reach.Row v
reach_of (act.New v p) = reach.Row v
reach_of (act.Read q) = reach.Row (asked_vertex q)
reach_of (act.Apply v) = reach.Row v
reach_of (act.Undo v) = reach.Row v
reach_of (act.WriteGroup moment) = reach.Log
reach_of act.Mend = reach.Log

-- the state after a move; without one nothing changes
abbrev pub after_clock : State → Name → Option ClockMove → State
after_clock s i None = s
after_clock s i (Some m) = record s { clock = m.clock; actor = set_name s.actor i m.actor }

abbrev pub after_row : State → Name → ℕ → Option RowMove → State
after_row s i v None = s
after_row s i v (Some m) = record s { actor = set_name s.actor i m.actor; row = set_at s.row v m.row }

abbrev pub after_log : State → Name → Option LogMove → State
after_log s i None = s
after_log s i (Some m) = record s { log = m.log; actor = set_name s.actor i m.actor }

abbrev pub after_group : State → Name → Option GroupMove → State
after_group s i None = s
after_group s i (Some m) = record s { clock = m.clock; log = m.log; actor = set_name s.actor i m.actor }

abbrev pub after_at : Reach → Limits → State → Name → Act → State
after_at reach.Clock most s i action = after_clock s i (clock_event action s.clock (s.actor i))
after_at (reach.Row v) most s i action = after_row s i v (row_event most action (s.row v) (s.actor i))
after_at reach.Log most s i action = after_log s i (log_event action i s.log (s.actor i))
after_at reach.LogAndClock most s i action = after_group s i (group_event action i s.log s.clock (s.actor i))

-- the state after an event of an actor
abbrev pub after : Limits → State → Name → Act → State
after most s i action = after_at (reach_of action) most s i action

-- and its answer
abbrev pub clock_answer : Option ClockMove → CoreAnswer
clock_answer None = answer.NotEnabled
clock_answer (Some m) = m.answer

abbrev pub row_answer : Option RowMove → CoreAnswer
row_answer None = answer.NotEnabled
row_answer (Some m) = m.answer

abbrev pub log_answer : Option LogMove → CoreAnswer
log_answer None = answer.NotEnabled
log_answer (Some m) = m.answer

abbrev pub group_answer : Option GroupMove → CoreAnswer
group_answer None = answer.NotEnabled
group_answer (Some m) = m.answer

abbrev pub answer_at : Reach → Limits → State → Name → Act → CoreAnswer
answer_at reach.Clock most s i action = clock_answer (clock_event action s.clock (s.actor i))
answer_at (reach.Row v) most s i action = row_answer (row_event most action (s.row v) (s.actor i))
answer_at reach.Log most s i action = log_answer (log_event action i s.log (s.actor i))
answer_at reach.LogAndClock most s i action = group_answer (group_event action i s.log s.clock (s.actor i))

abbrev pub answer_to : Limits → State → Name → Act → CoreAnswer
answer_to most s i action = answer_at (reach_of action) most s i action

-- A list of events, each by an actor of the first pass: the state after all of them, and their answers.
abbrev pub first_name : ℕ → Name
first_name i = record { pass = []; index = i }

abbrev pub after_all : Limits → State → List Event → State
after_all most s [] = s
after_all most s (e ∷ events) = after_all most (after most s (first_name e.actor) e.act) events

abbrev pub answers_to : Limits → State → List Event → List CoreAnswer
answers_to most s [] = []
answers_to most s (e ∷ events) = answer_to most s (first_name e.actor) e.act ∷ answers_to most (after most s (first_name e.actor) e.act) events
