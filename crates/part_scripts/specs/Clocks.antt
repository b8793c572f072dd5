-- What a call on the clock's part is among the core's events.
use Rattle.std.specs.Prelude.{◌≡◌, Option, Some, None, Result, Ok, Err}
use Rattle.graph_model.specs.declared.no_memory.NoMemory.{NoMemory}
use Rattle.core_states.specs.declared.actor.Actor.{Actor}
use Rattle.core_states.specs.declared.clock.Clock.{Clock}
use Rattle.core_states.specs.declared.event.Act.{Act}
use Rattle.core_states.specs.declared.event.CoreAnswer.{CoreAnswer}
use Rattle.core_states.specs.LogParts.{LogPart}
use Rattle.core_states.specs.Names.{Name}
use Rattle.core_states.specs.States.{clock_event, group_event}
use Rattle.epoch_clock.specs.Events.{LeavesClock, LeavesGroup}

-- A call did the actor's event on the clock, and answered as it does; or it did nothing.
abbrev pub DidOnClock : Act → Actor → Clock → Result (Option CoreAnswer) NoMemory → Clock → Type 0
DidOnClock action a k (Ok None) next = next ≡ k
DidOnClock action a k (Ok (Some says)) next = LeavesClock (clock_event action k a) says next
DidOnClock action a k (Err e) next = next ≡ k

-- The same of an event on the log part and the clock.
abbrev pub DidOnGroup : Act → Name → LogPart → Actor → Clock → Result (Option CoreAnswer) NoMemory → Clock → Type 0
DidOnGroup action i log a k (Ok None) next = next ≡ k
DidOnGroup action i log a k (Ok (Some says)) next = LeavesGroup (group_event action i log k a) says next
DidOnGroup action i log a k (Err e) next = next ≡ k
