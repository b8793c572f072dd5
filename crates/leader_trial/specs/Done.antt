-- The events of an actor of the first pass.
use Rattle.std.specs.Prelude.{ℕ, List, [], ◌∷◌, Option, Some, None}
use Rattle.core_states.specs.declared.event.Act.{Act}
use Rattle.core_states.specs.declared.event.Act.TheVariants as act
use Rattle.core_states.specs.declared.event.CoreAnswer.{CoreAnswer}
use Rattle.core_states.specs.States.{first_name}
use Rattle.turn_board.specs.Views.{Done}

abbrev pub done : ℕ → Act → CoreAnswer → Done
done me action says = record { by = first_name me; act = action; answer = says }

-- the event, where it was answered
abbrev pub done_if : ℕ → Act → Option CoreAnswer → List Done
done_if me action None = []
done_if me action (Some says) = done me action says ∷ []

-- a group was noted as durable at this moment, and then published
abbrev pub wrote_and : ℕ → ℕ → CoreAnswer → Option CoreAnswer → List Done
wrote_and me moment wrote published = done me (act.WriteGroup moment) wrote ∷ done_if me act.Publish published
