-- What an event leaves of the part that it works on and of the actor, also where it is not enabled.
use Rattle.std.specs.Prelude.{◌≡◌, Option, Some, None}
use Rattle.core_rows.specs.Rows.{Row}
use Rattle.core_states.specs.declared.actor.Actor.{Actor}
use Rattle.core_states.specs.declared.clock.Clock.{Clock}
use Rattle.core_states.specs.declared.event.CoreAnswer.{CoreAnswer}
use Rattle.core_states.specs.declared.event.CoreAnswer.TheVariants.{NotEnabled}
use Rattle.core_states.specs.ClockEvents.{ClockMove}
use Rattle.core_states.specs.LogParts.{LogPart}
use Rattle.core_states.specs.LogEvents.{LogMove, GroupMove}
use Rattle.core_states.specs.RowEvents.{RowMove}

-- An event that is not enabled leaves all as it was.
abbrev pub clock_move : Clock → Actor → Option ClockMove → ClockMove
clock_move k a None = record { answer = NotEnabled; clock = k; actor = a }
clock_move k a (Some m) = m

abbrev pub log_move : LogPart → Actor → Option LogMove → LogMove
log_move log a None = record { answer = NotEnabled; log = log; actor = a }
log_move log a (Some m) = m

abbrev pub group_move : LogPart → Clock → Actor → Option GroupMove → GroupMove
group_move log k a None = record { answer = NotEnabled; log = log; clock = k; actor = a }
group_move log k a (Some m) = m

abbrev pub row_move : Row → Actor → Option RowMove → RowMove
row_move row a None = record { answer = NotEnabled; row = row; actor = a }
row_move row a (Some m) = m

-- A call did what an event does to what it works on and to the actor, and answered as the event does.
abbrev pub DoesOnClock : Option ClockMove → Clock → Actor → CoreAnswer → Clock → Actor → Type 0
DoesOnClock m k a says k' a' = clock_move k a m ≡ record { answer = says; clock = k'; actor = a' }

abbrev pub DoesOnLog : Option LogMove → LogPart → Actor → CoreAnswer → LogPart → Actor → Type 0
DoesOnLog m log a says log' a' = log_move log a m ≡ record { answer = says; log = log'; actor = a' }

abbrev pub DoesOnGroup : Option GroupMove → LogPart → Clock → Actor → CoreAnswer → LogPart → Clock → Actor → Type 0
DoesOnGroup m log k a says log' k' a' = group_move log k a m ≡ record { answer = says; log = log'; clock = k'; actor = a' }

abbrev pub DoesOnRow : Option RowMove → Row → Actor → CoreAnswer → Row → Actor → Type 0
DoesOnRow m row a says row' a' = row_move row a m ≡ record { answer = says; row = row'; actor = a' }
