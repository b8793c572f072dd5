-- Between its works: a pass that holds no turn, on a board that was made for an empty log.
use Rattle.std.specs.Prelude.{◌≡◌, ℕ, Option, Some, None}
use Rattle.graph_model.specs.Records.{empty_base}
use Rattle.core_rows.specs.Rows.{Row}
use Rattle.core_states.specs.declared.actor.Actor.{Actor}
use Rattle.core_states.specs.declared.clock.Clock.{Clock}
use Rattle.core_states.specs.declared.event.CoreAnswer.{CoreAnswer}
use Rattle.core_states.specs.ClockEvents.{ClockMove}
use Rattle.core_states.specs.RowEvents.{RowMove}
use Rattle.core_states.specs.Moves.{DoesOnClock, DoesOnRow}
use Rattle.core_states.specs.Openings.{no_disk, run_limits}
use Rattle.turn_board.specs.Views.{Start, View, IsLast}
use Rattle.leader_trial.specs.Leads.{own_actor}

-- what the board is made for: the base of an empty log, the limits of a run, and nothing on the disk
abbrev pub first_start : Start
first_start = record { base = empty_base; limits = run_limits; found = no_disk; shards = 1 }

-- The pass is the last and holds no turn, and this is the actor as it has it.
abbrev pub IsIdle : ℕ → Actor → View → Type 0
IsIdle me a v = IsLast v × (own_actor me v ≡ a) × (v.limits ≡ run_limits)

-- What a call left where it was answered; where it was not it left all as it was.
abbrev pub DoesOnClockIf : Option ClockMove → Clock → Actor → Option CoreAnswer → Clock → Actor → Type 0
DoesOnClockIf m k a None k' a' = (k' ≡ k) × (a' ≡ a)
DoesOnClockIf m k a (Some says) k' a' = DoesOnClock m k a says k' a'

abbrev pub DoesOnRowIf : Option RowMove → Row → Actor → Option CoreAnswer → Row → Actor → Type 0
DoesOnRowIf m row a None row' a' = (row' ≡ row) × (a' ≡ a)
DoesOnRowIf m row a (Some says) row' a' = DoesOnRow m row a says row' a'
