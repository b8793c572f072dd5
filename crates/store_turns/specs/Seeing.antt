-- What a pass has seen of the clock, and what an event that it does there tells.
use Rattle.std.specs.Prelude.{◌≡◌, ℕ, ◌≤◌, Option, Some, None}
use Rattle.core_states.specs.declared.clock.Clock.{Clock}
use Rattle.core_states.specs.declared.event.Act.{Act}
use Rattle.core_states.specs.declared.event.CoreAnswer.{CoreAnswer}
use Rattle.core_states.specs.ClockEvents.{ClockMove}
use Rattle.core_states.specs.Laters.{Later}
use Rattle.core_states.specs.Names.{Name}
use Rattle.core_states.specs.States.{clock_event}
use Rattle.turn_board.specs.Views.{View, EachSeen}
use Rattle.store_turns.specs.Fits.{actor_at}

-- The pass may meet this clock: it shows the epoch of the base, or a later one, and is later than each clock that the pass has seen.
abbrev pub MayMeet : View → Clock → Type 0
MayMeet v k = (v.base.epoch ≤ k.visible) × EachSeen (λ old. Later old k) v.seen

-- The pass has seen this epoch visible: each clock that it may meet shows it, or a later one.
abbrev pub HasSeen : ℕ → View → Type 0
HasSeen e v = (k : Clock) → MayMeet v k → e ≤ k.visible

-- The actor's event was done on a clock that the pass might meet, with this answer, and left the actor so. Each clock that the pass may meet then is later than the one that the event left.
pub record MetClock (a : Act) (says : CoreAnswer) (n : Name) (v v' : View) : Type 0 where
  pub clock : Clock
  pub met : MayMeet v clock
  pub move : ClockMove
  pub is : clock_event a clock (actor_at v n) ≡ Some move
  pub answer : move.answer ≡ says
  pub actor : move.actor ≡ actor_at v' n
  pub later : (k : Clock) → MayMeet v' k → Later move.clock k

-- The event was done on such a clock, where it was answered; where nothing was done the actor is as it was.
abbrev pub MeetsClock : (CoreAnswer → Act) → Option CoreAnswer → Name → View → View → Type 0
MeetsClock acts None n v v' = actor_at v' n ≡ actor_at v n
MeetsClock acts (Some says) n v v' = MetClock (acts says) says n v v'
