-- When an event is enabled, and what it answers where it is not.
use Rattle.std.specs.Prelude.{◌≡◌, ◌↔◌, Bool, false, is_some}
use Rattle.core_states.specs.declared.event.Act.{Act}
use Rattle.core_states.specs.declared.event.CoreAnswer.TheVariants as answer
use Rattle.core_states.specs.declared.event.Reach.{Reach}
use Rattle.core_states.specs.declared.event.Reach.TheVariants as reach
use Rattle.core_states.specs.Names.{Name}
use Rattle.core_states.specs.RowEvents.{Limits}
use Rattle.core_states.specs.States.{State, clock_event, row_event, log_event, group_event, reach_of, answer_to, after}

-- The condition of the event holds of the actor, and of what it works on.
abbrev pub is_enabled_at : Reach → Limits → State → Name → Act → Bool
is_enabled_at reach.Clock most s i action = is_some (clock_event action s.clock (s.actor i))
is_enabled_at (reach.Row v) most s i action = is_some (row_event most action (s.row v) (s.actor i))
is_enabled_at reach.Log most s i action = is_some (log_event action i s.log (s.actor i))
is_enabled_at reach.LogAndClock most s i action = is_some (group_event action i s.log s.clock (s.actor i))

abbrev pub is_enabled : Limits → State → Name → Act → Bool
is_enabled most s i action = is_enabled_at (reach_of action) most s i action

-- An event answers NotEnabled exactly where it is not enabled, and then nothing changes.
pub record TellsEnabled (most : Limits) (s : State) (i : Name) (action : Act) : Type 0 where
  pub exact : (answer_to most s i action ≡ answer.NotEnabled) ↔ (is_enabled most s i action ≡ false)
  pub unchanged : is_enabled most s i action ≡ false → after most s i action ≡ s
